-- Readers that always read something or refuse.
use Rattle.std.specs.Prelude.{ℕ, zero, suc, ◌+◌, ◌-◌, ◌≡◌, refl, Bool, true, false, List, [], ◌∷◌, ◌++◌, eqb, drop}
use Rattle.refusals.specs.declared.Refusal.{Refusal}
use Rattle.refusals.specs.declared.Refusal.TheVariants.{SignExpected, NameExpected, TermExpected}
use Rattle.words.specs.Names.{name_kind}
use Rattle.term_parser.specs.Source.{Source, one, numeral, metavariable, name, application}
use Rattle.term_parser.specs.Parsing.{Tokens, kind_of, place_of, line_of, when, Parsed, parsed, absent, refused, plus, follow, required, sign_of, continued, repeat}
use Rattle.term_parser.specs.Grammar.{name_of, applied, equated, atom_of, app_of, term_of}

abbrev pub Firm : {A : Type 0} → Parsed A → Type 0
Firm x = x ≡ absent → ⊥

-- Laws

pub firm_parsed : {A : Type 0} (a : A) (n : ℕ) → Firm (parsed a n)
firm_parsed a n e = absurd cc

pub firm_refused : {A : Type 0} (r : Refusal) (l : ℕ) → Firm {A = A} (refused r l)
firm_refused r l e = absurd cc

pub firm_required : {A : Type 0} (r : Refusal) (l : ℕ) (x : Parsed A) → Firm (required r l x)
firm_required r l (parsed a n) e = absurd cc
firm_required r l absent e = absurd cc
firm_required r l (refused q m) e = absurd cc

pub firm_plus : {A : Type 0} (n : ℕ) (x : Parsed A) → Firm x → Firm (plus n x)
firm_plus n (parsed a m) f e = absurd cc
firm_plus n absent f e = f refl
firm_plus n (refused q m) f e = absurd cc

pub firm_follow : {A B : Type 0} (x : Parsed A) (ts : Tokens) (next : A → Tokens → Parsed B) → Firm x → ((a : A) (us : Tokens) → Firm (next a us)) → Firm (follow x ts next)
firm_follow (parsed a n) ts next f g e = firm_plus n (next a (drop n ts)) (g a (drop n ts)) e
firm_follow absent ts next f g e = f refl
firm_follow (refused q m) ts next f g e = absurd cc

firm_continued : {A B : Type 0} (x : Parsed A) (next : A → ℕ → Parsed B) (end : Parsed B) → ((a : A) (m : ℕ) → Firm (next a m)) → Firm end → Firm (continued x next end)
firm_continued (parsed a m) next end f g e = f a m e
firm_continued absent next end f g e = g e
firm_continued (refused q m) next end f g e = absurd cc

pub firm_repeat : {A : Type 0} (item : Tokens → Parsed A) (ts : Tokens) (k n : ℕ) (done : List A) → Firm (repeat item ts k n done)
unfolding repeat
firm_repeat item [] k n done = firm_continued (item []) (λ a m. parsed done n) (parsed done n) (λ a m. firm_parsed done n) (firm_parsed done n)
firm_repeat item (t ∷ ts) (suc k) n done = firm_repeat item ts k n done
firm_repeat item (t ∷ ts) zero n done =
    firm_continued (item (t ∷ ts)) (λ a m. repeat item ts (m - 1) (n + m) (done ++ (a ∷ []))) (parsed done n) (λ a m. firm_repeat item ts (m - 1) (n + m) (done ++ (a ∷ []))) (firm_parsed done n)

pub firm_when : {A : Type 0} (b : Bool) (x y : Unit {0} → Parsed A) → Firm (x tt) → Firm (y tt) → Firm (when b x y)
firm_when true x y f g = f
firm_when false x y f g = g

pub firm_sign : (last kind : ℕ) (ts : Tokens) → Firm (sign_of last kind ts)
firm_sign last kind ts = firm_when (eqb (kind_of ts) kind) (λ _. parsed tt 1) (λ _. refused SignExpected (line_of last ts)) (firm_parsed tt 1) (firm_refused SignExpected (line_of last ts))

pub firm_name : (last : ℕ) (us : Tokens) → Firm (name_of last us)
firm_name last us = firm_when (eqb (kind_of us) name_kind) (λ _. parsed (place_of us) 1) (λ _. refused NameExpected (line_of last us)) (firm_parsed (place_of us) 1) (firm_refused NameExpected (line_of last us))

firm_applied : (line : ℕ) (t : Source one) (args : List (Source one)) → Firm (applied line t args)
firm_applied line t [] e = absurd cc
firm_applied line (name f) (a ∷ l) e = absurd cc
firm_applied line (numeral p v) (a ∷ l) e = absurd cc
firm_applied line (metavariable p) (a ∷ l) e = absurd cc
firm_applied line (application f ts) (a ∷ l) e = absurd cc

firm_equated : (line : ℕ) (t a : Source one) → Firm (equated line t a)
firm_equated line (name f) a e = absurd cc
firm_equated line (application f ts) a e = absurd cc
firm_equated line (numeral p v) a e = absurd cc
firm_equated line (metavariable p) a e = absurd cc

-- Terms, where `inner` reads from a parenthesis on.
module _ (text : List ℕ) (last : ℕ) (inner : Tokens → Parsed (Source one)) where
  pub firm_app : (us : Tokens) → Firm (app_of text last inner us)
  unfolding app_of
  firm_app us = firm_follow (required TermExpected (line_of last us) (atom_of text last inner us)) us
      (λ t vs. follow (repeat (atom_of text last inner) vs 0 0 []) vs (λ args ws. applied (line_of last ws) t args))
      (firm_required TermExpected (line_of last us) (atom_of text last inner us))
      (λ t vs. firm_follow (repeat (atom_of text last inner) vs 0 0 []) vs (λ args ws. applied (line_of last ws) t args)
      (firm_repeat (atom_of text last inner) vs 0 0 []) (λ args ws. firm_applied (line_of last ws) t args))

  abbrev equal_to : Source one → Tokens → Parsed (Source one)
  equal_to t us = follow (app_of text last inner us) us (λ r vs. equated (line_of last vs) t r)

  pub firm_term : (us : Tokens) → Firm (term_of text last inner us)
  unfolding term_of
  firm_term us = firm_follow (app_of text last inner us) us (λ t vs. when (eqb (kind_of vs) 23) (λ _. plus 1 (equal_to t (drop 1 vs))) (λ _. parsed t 0)) (firm_app us)
      (λ t vs. firm_when (eqb (kind_of vs) 23) (λ _. plus 1 (equal_to t (drop 1 vs))) (λ _. parsed t 0)
      (firm_plus 1 (equal_to t (drop 1 vs)) (firm_follow (app_of text last inner (drop 1 vs)) (drop 1 vs) (λ a ws. equated (line_of last ws) t a) (firm_app (drop 1 vs)) (λ a ws. firm_equated (line_of last ws) t a)))
      (firm_parsed t 0))
