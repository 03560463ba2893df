-- Laws of laid patterns (docs/STORAGE.md, "Stored terms"): what `lay` writes is well formed, denotes the term again, is accepted by arena's test of the
-- form, and touches no other word. So a rule whose premises and conclusion are laid one behind the other is a stored rule in form.
use Prim.Native.Nat.{ℕ, zero, suc, ◌+◌, ◌-◌, ◌≤◌, ◌<◌}
use native.Mathlib.Omega.{arith}
use Rattle.std.proofs.Common.{not-suc-le-zero, sym, ◌∙◌, subst, length-append, length-take-le, take-add, drop_at}
use Rattle.std.specs.Prelude.{◌≡◌, refl, Option, List, [], ◌∷◌, ◌++◌, take, drop}
use Rattle.std.proofs.Math.Path.{ap, ap₂}
use Rattle.std.proofs.Math.Bool.{true}
use Rattle.std.proofs.Math.Logic.{⊎_elim}
use Rattle.std.proofs.Math.ListN.{get_or, length}
use Rattle.std.proofs.lemmas.List.Edits.{sets}
use Rattle.std.proofs.Math.Seq.{length-sets, slice, slice_empty, slice-cons, length-slice}
use Rattle.std.proofs.lemmas.List.{drop-append-le}
use Rattle.terms.specs.Numbers.{same_refl, same_true, by_bool, true_false, or_left, or_right}
use Rattle.terms.specs.Term.{Kind, one, many, Syn, var, app, nil, cons, Term, Terms, count, append, mem, Below}
use Rattle.terms.specs.TermLaws.{below_mem, cons_inj}
use Rattle.arena.specs.Cells.{headers, Cells, symbol_of, arity_of, denote, Reference, WellFormed, Same, low_or_high, reference_up, frame_denote, denote_variable, cells, terms_of}
use Rattle.arena.specs.Copies.{pattern_room}
use Rattle.arena.specs.NodeLaws.{sets_below, sets_within, sets_past, header_of, reference_same, formed_same, terms_same, push_frame, push_formed, push_reference, push_denotes}
use Rattle.arena.specs.Form.{inputs, is_header, Place, is_argument, nodes, in_form}
use Rattle.arena.specs.FormLaws.{Header, header_yes, argument_reference, argument_from, reference_accepted}
use Rattle.resolution.specs.Rules.{Rule}
use Rattle.resolution.specs.Fresh.{elem, met, met_back, place, head_vars, all_vars}
use Rattle.resolution.specs.FreshLaws.{Covers}
use Rattle.resolution.proofs.FreshLaws.{grows_refl, covers_grows, met_covers, met_back_covers, met_back_grows, place_append, place_lt}
use Rattle.resolution.specs.Search.{words}
use Rattle.meeting.specs.Places.{Variables, Records, place_numbers}
use Rattle.meeting.specs.PlaceLaws.{met_variables, variables_few, records_earlier, place_number}
use Rattle.attempts.specs.StoredRules.{pattern_of, rule_of, Part, Root, StoredRule}
use Rattle.attempts.specs.declared.Stored.{Stored}
use Rattle.patterns.specs.Laying.{Laid, laid, header, pushed, after, and_then, lay}

-- The terms in it: the one, or those of the list.
abbrev pub each : {k : Kind} → Syn k → Terms
each {k = one} t = cons t nil
each {k = many} ts = ts

-- The symbol f is known and has n arguments, at most 16.
pub record Symbol (arities : List ℕ) (f n : ℕ) : Type 0 where
  pub known : f < length arities
  pub own : get_or arities f 0 ≡ n
  pub few : n ≤ inputs

-- Each symbol is applied to as many arguments as it has.
abbrev pub Fits : {k : Kind} → List ℕ → Syn k → Type 0
Fits arities (var x) = Unit {0}
Fits arities (app f ts) = Symbol arities f (count ts) × Fits arities ts
Fits arities nil = Unit {0}
Fits arities (cons t ts) = Fits arities t × Fits arities ts

-- Nodes one behind another from the address a up to b: at a the header of a known symbol, and behind its arguments the next.
pub data Nodes (arities : List ℕ) (w : Cells) : ℕ → ℕ → Type 0 where
  none : {a : ℕ} → Nodes arities w a a
  next : {a b : ℕ} → Header arities (w a) → Nodes arities w (suc a + arity_of (w a)) b → Nodes arities w a b

-- What laying t into the words w from the place u on asks.
pub record Layable {k : Kind} (arities : List ℕ) (t : Syn k) (w : List ℕ) (u : ℕ) : Type 0 where
  -- the words before are well formed;
  pub formed : WellFormed pattern_room (cells w) pattern_room u
  -- there is room, and references to the new words are below the headers;
  pub room : u + words t ≤ length w
  pub small : pattern_room + u + words t ≤ headers
  -- the variables are below 64, and each symbol has its arguments.
  pub below : Below pattern_room t
  pub fits : Fits arities t

-- The words of w from the place u up to u' are those of t, and rs are its references.
pub record Lying {k : Kind} (arities : List ℕ) (t : Syn k) (w : List ℕ) (u : ℕ) (rs : List ℕ) (u' : ℕ) : Type 0 where
  -- the variables are below 64;
  pub below : Below pattern_room t
  -- there is a reference for each term, and the words are as many as document 01 counts;
  pub number : length rs ≡ count (each t)
  pub used : u' ≡ u + words t
  -- they are there, and references to them are below the headers;
  pub there : u' ≤ length w
  pub small : pattern_room + u' ≤ headers
  -- all words up to there are well formed;
  pub formed : WellFormed pattern_room (cells w) pattern_room u'
  -- a reference is a variable of the term or one of its nodes,
  pub reference : (i : ℕ) → i < length rs → Reference pattern_room (cells w) pattern_room u' (get_or rs i 0)
  pub occurs : (i : ℕ) → i < length rs → get_or rs i 0 < pattern_room → mem (get_or rs i 0) t ≡ true
  pub new : (i : ℕ) → i < length rs → pattern_room ≤ get_or rs i 0 → pattern_room + u ≤ get_or rs i 0
  -- and together they denote the terms;
  pub denotes : terms_of (denote pattern_room (cells w)) rs ≡ each t
  -- a word below the headers is a variable of the term or an earlier one of its nodes;
  pub variable : (i : ℕ) → u ≤ i → i < u' → get_or w i 0 < pattern_room → mem (get_or w i 0) t ≡ true
  pub from_on : (i : ℕ) → u ≤ i → i < u' → pattern_room ≤ get_or w i 0 → get_or w i 0 < headers → pattern_room + u ≤ get_or w i 0
  pub earlier : (i : ℕ) → u ≤ i → i < u' → pattern_room ≤ get_or w i 0 → get_or w i 0 < headers → get_or w i 0 < pattern_room + i
  -- and the words are nodes one behind another.
  pub chain : Nodes arities (cells w) u u'

-- What laying gives: the references rs, and the words w' in use up to u'.
pub record LaidAs {k : Kind} (arities : List ℕ) (t : Syn k) (w : List ℕ) (u : ℕ) (rs w' : List ℕ) (u' : ℕ) : Type 0 where
  -- the new words are those of the term,
  pub lying : Lying arities t w' u rs u'
  -- and no other word changes.
  pub kept : length w' ≡ length w
  pub low : Same pattern_room (cells w) (cells w') u
  pub high : (i : ℕ) → u' ≤ i → get_or w' i 0 ≡ get_or w i 0

-- The same of references, words and place in one.
abbrev As : {k : Kind} → List ℕ → Syn k → List ℕ → ℕ → Laid → Type 0
As arities t w u (laid rs w' u') = LaidAs arities t w u rs w' u'

-- Nodes one behind another

-- They end no earlier than they start,
nodes_up : {arities : List ℕ} {w : Cells} {a b : ℕ} → Nodes arities w a b → a ≤ b
nodes_up none = omega arith
nodes_up (next h n) = let l = nodes_up n in omega arith

-- and more may follow.
nodes_append : {arities : List ℕ} {w : Cells} {a b c : ℕ} → Nodes arities w a b → Nodes arities w b c → Nodes arities w a c
nodes_append none m = m
nodes_append (next h n) m = next h (nodes_append n m)

-- Words from b on are of no concern.
nodes_same : {arities : List ℕ} {w w' : Cells} {a b : ℕ} → Same pattern_room w w' b → Nodes arities w a b → Nodes arities w' a b
nodes_same s none = none
nodes_same {arities} {w} {w'} {a} {b} s (next h n) =
    let l = nodes_up n in
    let e : w a ≡ w' a = s a (omega arith) in
    let n' : Nodes arities w' (suc a + arity_of (w a)) b = nodes_same s n in
    next (rw e at h) (rw e at n')

-- Lists of references

-- What holds of the references of each of two lists holds of those of both.
append_each : (P : ℕ → Type 0) (xs ys : List ℕ) → ((i : ℕ) → i < length xs → P (get_or xs i 0)) → ((i : ℕ) → i < length ys → P (get_or ys i 0))
    → (i : ℕ) → i < length (xs ++ ys) → P (get_or (xs ++ ys) i 0)
append_each P [] ys f g i l = g i l
append_each P (x ∷ xs) ys f g zero l = f 0 (omega arith)
append_each P (x ∷ xs) ys f g (suc i) l = append_each P xs ys (λ j m. f (suc j) (omega arith)) g i (omega arith)

-- Two lists of references denote two lists of terms.
terms_append : (g : ℕ → Term) (xs ys : List ℕ) → terms_of g (xs ++ ys) ≡ append (terms_of g xs) (terms_of g ys)
terms_append g [] ys = refl
terms_append g (x ∷ xs) ys = ap (cons (g x)) (terms_append g xs ys)

-- A single reference is the first.
single : (P : ℕ → Type 0) (r i : ℕ) → i < 1 → P r → P (get_or (r ∷ []) i 0)
single P r i l p = let e : i ≡ 0 = omega arith in rw e p

-- Laid words

-- Words written behind them change nothing.
pub lying_same : {k : Kind} {arities : List ℕ} {t : Syn k} {w w' : List ℕ} {u : ℕ} {rs : List ℕ} {u' : ℕ} → Same pattern_room (cells w) (cells w') u' → u' ≤ length w'
    → Lying arities t w u rs u' → Lying arities t w' u rs u'
lying_same {k} {arities} {t} {w} {w'} {u} {rs} {u'} s there h = record {
  below = h.below;
  number = h.number;
  used = h.used;
  there = there;
  small = h.small;
  formed = formed_same pattern_room s h.formed;
  reference = λ i l. reference_same pattern_room s (h.reference i l);
  occurs = h.occurs;
  new = h.new;
  denotes = sym (terms_same pattern_room (denote pattern_room (cells w)) (denote pattern_room (cells w')) rs
      (λ i l. frame_denote pattern_room (cells w) pattern_room u' h.formed (cells w') s (get_or rs i 0) (h.reference i l)))
      ∙ h.denotes;
  variable = λ i l m v. let q : get_or w i 0 ≡ get_or w' i 0 = s i m in
      let v' : get_or w i 0 < pattern_room = omega arith in
      let y : mem (get_or w i 0) t ≡ true = h.variable i l m v' in rw q at y;
  from_on = λ i l m v d. let q : get_or w i 0 ≡ get_or w' i 0 = s i m in let y = h.from_on i l m (omega arith) (omega arith) in omega arith;
  earlier = λ i l m v d. let q : get_or w i 0 ≡ get_or w' i 0 = s i m in let y = h.earlier i l m (omega arith) (omega arith) in omega arith;
  chain = nodes_same s h.chain;
}

-- A term's words in front of those of others.
lying_append : (arities : List ℕ) (t : Term) (ts : Terms) (w : List ℕ) (u : ℕ) (rs : List ℕ) (u₁ : ℕ) (rs' : List ℕ) (u₂ : ℕ)
    → Lying arities t w u rs u₁ → Lying arities ts w u₁ rs' u₂ → Lying arities (cons t ts) w u (rs ++ rs') u₂
unfolding mem
lying_append arities t ts w u rs u₁ rs' u₂ h g =
    let a = h.used in
    let b = g.used in
    let n = h.number in
    let m = g.number in
    let k = length-append rs rs' in
    record {
      below = (h.below, g.below);
      number = omega arith;
      used = omega arith;
      there = g.there;
      small = g.small;
      formed = g.formed;
      reference = append_each (λ (r : ℕ). Reference pattern_room (cells w) pattern_room u₂ r) rs rs'
          (λ i l. reference_up pattern_room (omega arith) (omega arith) (h.reference i l)) g.reference;
      occurs = append_each (λ (r : ℕ). r < pattern_room → mem r (cons t ts) ≡ true) rs rs'
          (λ i l v. or_left (mem (get_or rs i 0) t) (mem (get_or rs i 0) ts) (h.occurs i l v))
          (λ i l v. or_right (mem (get_or rs' i 0) t) (mem (get_or rs' i 0) ts) (g.occurs i l v));
      new = append_each (λ (r : ℕ). pattern_room ≤ r → pattern_room + u ≤ r) rs rs' h.new (λ i l v. let y = g.new i l v in omega arith);
      denotes = terms_append (denote pattern_room (cells w)) rs rs' ∙ ap₂ append h.denotes g.denotes;
      variable = λ i l m v. ⊎_elim
          (λ b. or_left (mem (get_or w i 0) t) (mem (get_or w i 0) ts) (h.variable i l b v))
          (λ b. or_right (mem (get_or w i 0) t) (mem (get_or w i 0) ts) (g.variable i b m v))
          (low_or_high pattern_room i u₁);
      from_on = λ i l m v d. ⊎_elim (λ b. h.from_on i l b v d) (λ b. let y = g.from_on i b m v d in omega arith) (low_or_high pattern_room i u₁);
      earlier = λ i l m v d. ⊎_elim (λ b. h.earlier i l b v d) (λ b. g.earlier i b m v d) (low_or_high pattern_room i u₁);
      chain = nodes_append h.chain g.chain;
    }

-- A node behind its arguments, whose references are rs.
module _ (arities : List ℕ) (f : ℕ) (ts : Terms) (w : List ℕ) (u : ℕ) (rs : List ℕ) (u₁ : ℕ) (symbol : Symbol arities f (count ts))
    (room : u₁ + 1 + length rs ≤ length w) (small : pattern_room + (u₁ + 1 + length rs) ≤ headers) (h : Lying arities ts w u rs u₁) where
  abbrev top : ℕ
  top = header f (length rs)

  abbrev grown : List ℕ
  grown = sets w u₁ (top ∷ rs)

  -- The node's own address is below the headers, and its arguments are at most 16.
  address : pattern_room + u₁ ≤ headers
  address = omega arith

  few : length rs ≤ inputs
  few = let s = symbol.few in let n = h.number in omega arith

  -- So its header can be read again.
  top_high : headers ≤ top
  top_high = let q = few in (header_of f (length rs) (omega arith)).high

  top_symbol : symbol_of top ≡ f
  top_symbol = let q = few in (header_of f (length rs) (omega arith)).symbol

  top_arity : arity_of top ≡ length rs
  top_arity = let q = few in (header_of f (length rs) (omega arith)).arity

  -- The words before it stay.
  old_word : (i : ℕ) → i < u₁ → get_or w i 0 ≡ get_or grown i 0
  old_word i l = push_frame pattern_room w pattern_room u₁ top rs h.formed room address top_high top_arity h.reference i l

  -- The new word at i is the header, or the reference of an argument.
  new_word : {P : Type 0} (i : ℕ) → u₁ ≤ i → i < u₁ + 1 + length rs → (get_or grown i 0 ≡ top → P)
      → ((j : ℕ) → j < length rs → u₁ < i → get_or grown i 0 ≡ get_or rs j 0 → P) → P
  new_word i a b f g =
      let e : u₁ + (i - u₁) ≡ i = omega arith in
      let at : get_or grown (u₁ + (i - u₁)) 0 ≡ get_or (top ∷ rs) (i - u₁) 0 = sets_within (top ∷ rs) w u₁ (i - u₁) (omega arith) (omega arith) in
      let at' : get_or grown i 0 ≡ get_or (top ∷ rs) (i - u₁) 0 = rw e at at in
      ⊎_elim
      (λ l. let z : i - u₁ ≡ 0 = omega arith in f (rw z at at'))
      (λ l. let z : i - u₁ ≡ suc (i - suc u₁) = omega arith in g (i - suc u₁) (omega arith) l (rw z at at'))
      (low_or_high pattern_room i (suc u₁))

  -- Its symbol is known.
  top_header : Header arities top
  top_header =
      let n = h.number in
      record {
        high = top_high;
        known = rw top_symbol symbol.known;
        own = rw (top_symbol, top_arity) (n ∙ sym symbol.own);
        few = rw top_arity few;
      }

  -- The node is complete: behind it nothing is to come.
  last_node : Nodes arities (cells grown) u₁ (u₁ + 1 + length rs)
  last_node =
      let z : u₁ + 0 ≡ u₁ = omega arith in
      let at : get_or grown (u₁ + 0) 0 ≡ top = sets_within (top ∷ rs) w u₁ 0 (omega arith) (omega arith) in
      let at' : cells grown u₁ ≡ top = rw z at at in
      let size : arity_of (cells grown u₁) ≡ length rs = rw at' top_arity in
      let e : suc u₁ + length rs ≡ u₁ + 1 + length rs = omega arith in
      let rest : Nodes arities (cells grown) (suc u₁ + arity_of (cells grown u₁)) (u₁ + 1 + length rs) = rw (size, e) none in
      let first : Header arities (cells grown u₁) = rw at' top_header in
      next first rest

  -- Its words lie behind those of its arguments.
  lying_node : Lying arities (app f ts) grown u ((pattern_room + u₁) ∷ []) (u₁ + 1 + length rs)
  unfolding mem
  lying_node =
      let a = h.used in
      let n = h.number in
      let k = length-sets w u₁ (top ∷ rs) in
      let high = top_high in
      let e : u₁ + suc (length rs) ≡ u₁ + 1 + length rs = omega arith in
      let wf : WellFormed pattern_room (cells grown) pattern_room (u₁ + suc (length rs)) =
      push_formed pattern_room w pattern_room u₁ top rs h.formed room address top_high top_arity h.reference in
      let ref : Reference pattern_room (cells grown) pattern_room (u₁ + suc (length rs)) (pattern_room + u₁) =
      push_reference pattern_room w pattern_room u₁ top rs h.formed room address top_high top_arity h.reference in
      let den : denote pattern_room (cells grown) (pattern_room + u₁) ≡ app (symbol_of top) (terms_of (denote pattern_room (cells w)) rs) =
      push_denotes pattern_room w pattern_room u₁ top rs h.formed room address top_high top_arity h.reference in
      record {
        below = h.below;
        number = refl;
        used = omega arith;
        there = omega arith;
        small = small;
        formed = rw e at wf;
        reference = λ i l. single (λ (r : ℕ). Reference pattern_room (cells grown) pattern_room (u₁ + 1 + length rs) r) (pattern_room + u₁) i l (rw e at ref);
        occurs = λ i l. single (λ (r : ℕ). r < pattern_room → mem r (app f ts) ≡ true) (pattern_room + u₁) i l (λ m. absurd (omega arith));
        new = λ i l. single (λ (r : ℕ). pattern_room ≤ r → pattern_room + u ≤ r) (pattern_room + u₁) i l (λ m. omega arith);
        denotes = ap (λ (t : Term). cons t nil) (den ∙ ap₂ app top_symbol h.denotes);
        variable = λ i l m v. ⊎_elim
            (λ b. let q = old_word i b in
            let v' : get_or w i 0 < pattern_room = omega arith in
            let y : mem (get_or w i 0) ts ≡ true = h.variable i l b v' in rw q at y)
            (λ b. new_word i b m (λ q. absurd (omega arith))
            (λ j k c q. let v' : get_or rs j 0 < pattern_room = omega arith in rw q (h.occurs j k v')))
            (low_or_high pattern_room i u₁);
        from_on = λ i l m v d. ⊎_elim
            (λ b. let q = old_word i b in let y = h.from_on i l b (omega arith) (omega arith) in omega arith)
            (λ b. new_word i b m (λ q. absurd (omega arith))
            (λ j k c q. let y = h.new j k (omega arith) in omega arith))
            (low_or_high pattern_room i u₁);
        earlier = λ i l m v d. ⊎_elim
            (λ b. let q = old_word i b in let y = h.earlier i l b (omega arith) (omega arith) in omega arith)
            (λ b. new_word i b m (λ q. absurd (omega arith))
            (λ j k c q. let y = (h.reference j k).node (omega arith) in omega arith))
            (low_or_high pattern_room i u₁);
        chain = nodes_append (nodes_same old_word h.chain) last_node;
      }

-- A variable takes no word, and is its own reference.
lying_variable : (arities : List ℕ) (x : ℕ) (w : List ℕ) (u : ℕ) → Layable arities (var x) w u → Lying arities (var x) w u (x ∷ []) u
unfolding mem
lying_variable arities x w u ready =
    let b = ready.below in
    let r = ready.room in
    let s = ready.small in
    record {
      below = b;
      number = refl;
      used = omega arith;
      there = omega arith;
      small = omega arith;
      formed = ready.formed;
      reference = λ i l. single (λ (r : ℕ). Reference pattern_room (cells w) pattern_room u r) x i l
          (record { variable = λ m. b; node = λ m. absurd (omega arith); header = λ m. absurd (omega arith) });
      occurs = λ i l. single (λ (r : ℕ). r < pattern_room → mem r (var x) ≡ true) x i l (λ m. same_refl x);
      new = λ i l. single (λ (r : ℕ). pattern_room ≤ r → pattern_room + u ≤ r) x i l (λ m. absurd (omega arith));
      denotes = ap (λ (t : Term). cons t nil) (denote_variable pattern_room (cells w) x b);
      variable = λ i l m. absurd (omega arith);
      from_on = λ i l m. absurd (omega arith);
      earlier = λ i l m. absurd (omega arith);
      chain = none;
    }

-- No terms take no words.
lying_none : (arities : List ℕ) (w : List ℕ) (u : ℕ) → Layable arities nil w u → Lying arities nil w u [] u
lying_none arities w u ready =
    let r = ready.room in
    let s = ready.small in
    record {
      below = tt;
      number = refl;
      used = omega arith;
      there = omega arith;
      small = omega arith;
      formed = ready.formed;
      reference = λ i l. absurd (not-suc-le-zero l);
      occurs = λ i l. absurd (not-suc-le-zero l);
      new = λ i l. absurd (not-suc-le-zero l);
      denotes = refl;
      variable = λ i l m. absurd (omega arith);
      from_on = λ i l m. absurd (omega arith);
      earlier = λ i l m. absurd (omega arith);
      chain = none;
    }

-- Laying

-- By induction over terms and lists of terms.
lay_as : {k : Kind} (arities : List ℕ) (t : Syn k) (w : List ℕ) (u : ℕ) → Layable arities t w u → As arities t w u (lay t w u)
unfolding lay
lay_as arities (var x) w u ready = record { lying = lying_variable arities x w u ready; kept = refl; low = λ i l. refl; high = λ i l. refl }
lay_as arities (app f ts) w u ready =
    let a = ready.room in
    let b = ready.small in
    go (lay ts w u) (lay_as arities ts w u (record { formed = ready.formed; room = omega arith; small = omega arith; below = ready.below; fits = ready.fits.1 }))
  where
    go : (l : Laid) → As arities ts w u l → As arities (app f ts) w u (pushed f l)
    go (laid rs w₁ u₁) h =
        let a = ready.room in
        let b = ready.small in
        let c = h.lying.used in
        let d = h.lying.number in
        let e = h.kept in
        record {
          lying = lying_node arities f ts w₁ u rs u₁ ready.fits.0 (omega arith) (omega arith) h.lying;
          kept = length-sets w₁ u₁ (header f (length rs) ∷ rs) ∙ h.kept;
          low = λ i l. h.low i l ∙ sym (sets_below (header f (length rs) ∷ rs) w₁ u₁ i (omega arith));
          high = λ i l. sets_past (header f (length rs) ∷ rs) w₁ u₁ i (omega arith) ∙ h.high i (omega arith);
        }
lay_as arities nil w u ready = record { lying = lying_none arities w u ready; kept = refl; low = λ i l. refl; high = λ i l. refl }
lay_as arities (cons t ts) w u ready =
    let a = ready.room in
    let b = ready.small in
    go (lay t w u)
    (lay_as arities t w u (record { formed = ready.formed; room = omega arith; small = omega arith; below = ready.below.0; fits = ready.fits.0 }))
    (λ w₁ u₁ r. lay_as arities ts w₁ u₁ r)
  where
    join : (rs w₁ : List ℕ) (u₁ : ℕ) → LaidAs arities t w u rs w₁ u₁ → (l : Laid) → As arities ts w₁ u₁ l → As arities (cons t ts) w u (after rs l)
    join rs w₁ u₁ h (laid rs' w₂ u₂) g =
        let a = h.lying.used in
        let b = g.lying.used in
        let c = h.lying.there in
        let d = g.kept in
        record {
          lying = lying_append arities t ts w₂ u rs u₁ rs' u₂ (lying_same g.low (omega arith) h.lying) g.lying;
          kept = g.kept ∙ h.kept;
          low = λ i l. h.low i l ∙ g.low i (omega arith);
          high = λ i l. g.high i l ∙ h.high i (omega arith);
        }

    go : (l : Laid) → As arities t w u l → ((w₁ : List ℕ) (u₁ : ℕ) → Layable arities ts w₁ u₁ → As arities ts w₁ u₁ (lay ts w₁ u₁))
        → As arities (cons t ts) w u (and_then l (λ v n. lay ts v n))
    go (laid rs w₁ u₁) h f =
        let a = ready.room in
        let b = ready.small in
        let c = h.lying.used in
        let d = h.kept in
        join rs w₁ u₁ h (lay ts w₁ u₁)
        (f w₁ u₁ (record { formed = h.lying.formed; room = omega arith; small = omega arith; below = ready.below.1; fits = ready.fits.1 }))

-- What laying gives.
pub lay_laid : {k : Kind} (arities : List ℕ) (t : Syn k) (w : List ℕ) (u : ℕ) (rs w' : List ℕ) (u' : ℕ)
    → Layable arities t w u → lay t w u ≡ laid rs w' u' → LaidAs arities t w u rs w' u'
lay_laid arities t w u rs w' u' ready e = subst (λ (l : Laid). As arities t w u l) e (lay_as arities t w u ready)

-- The form

-- The arguments of the node at a that are left, from the address `at` on.
arguments_yes : (p : Place) (arities : List ℕ) (a b : ℕ) → b ≤ length p.words → (left at : ℕ) → at + left ≤ b
    → ((j : ℕ) → at ≤ j → j < at + left → is_argument p a (get_or p.words j 0) ≡ true)
    → nodes p arities (slice (at + left) b p.words) (at + left) a 0 ≡ true → nodes p arities (slice at b p.words) at a left ≡ true
arguments_yes p arities a b long zero at l f e = let z : at + 0 ≡ at = omega arith in rw z at e
arguments_yes p arities a b long (suc left) at l f e =
    let z : at + suc left ≡ suc at + left = omega arith in
    let s : slice at b p.words ≡ get_or p.words at 0 ∷ slice (suc at) b p.words = slice-cons at b p.words 0 (omega arith) long in
    let y : is_argument p a (get_or p.words at 0) ≡ true = f at (omega arith) (omega arith) in
    rw (s, y) (arguments_yes p arities a b long left (suc at) (omega arith) (λ j m n. f j (omega arith) (omega arith)) (rw z at e))

-- Nodes one behind another, whose arguments are accepted, are accepted.
nodes_yes : (p : Place) (arities : List ℕ) (a b n : ℕ) → b ≤ length p.words
    → ((c i : ℕ) → a ≤ c → c < b → headers ≤ get_or p.words c 0 → i < arity_of (get_or p.words c 0) → is_argument p c (get_or p.words (c + suc i) 0) ≡ true)
    → Nodes arities (cells p.words) a b → nodes p arities (slice a b p.words) a n 0 ≡ true
nodes_yes p arities a b n long f none = rw slice_empty
nodes_yes p arities a b n long f (next h m) =
    let l = nodes_up m in
    let s : slice a b p.words ≡ get_or p.words a 0 ∷ slice (suc a) b p.words = slice-cons a b p.words 0 (omega arith) long in
    let y : is_header arities (get_or p.words a 0) ≡ true = header_yes arities (get_or p.words a 0) h in
    let k : headers ≤ get_or p.words a 0 = h.high in
    rw (s, y) (arguments_yes p arities a b long (arity_of (get_or p.words a 0)) (suc a) (omega arith)
    (λ j c d. let e : a + suc (j - suc a) ≡ j = omega arith in
    let x : is_argument p a (get_or p.words (a + suc (j - suc a)) 0) ≡ true = f a (j - suc a) (omega arith) (omega arith) k (omega arith) in rw e at x)
    (nodes_yes p arities (suc a + arity_of (get_or p.words a 0)) b a long (λ c i o. f c i (omega arith)) m))

-- Words accepted in their place are accepted where later words differ, and where nodes of an earlier place may be arguments too.
nodes_elsewhere : (p q : Place) (arities : List ℕ) (top : ℕ) → p.room ≡ q.room → p.variables ≡ q.variables → q.from ≤ p.from
    → Same p.room (cells p.words) (cells q.words) top → (rest : List ℕ) (at node left : ℕ) → at + length rest ≤ top → node ≤ at
    → nodes p arities rest at node left ≡ true → nodes q arities rest at node left ≡ true
nodes_elsewhere p q arities top r v f s [] at node zero l b e = refl
nodes_elsewhere p q arities top r v f s [] at node (suc left) l b e = true_false e refl
nodes_elsewhere p q arities top r v f s (x ∷ rest) at node zero l b e = by_bool (is_header arities x)
    (λ y. rw y (nodes_elsewhere p q arities top r v f s rest (suc at) at (arity_of x) (omega arith) (omega arith) (rw y at e)))
    (λ y. true_false e (rw y))
nodes_elsewhere p q arities top r v f s (x ∷ rest) at node (suc left) l b e = by_bool (is_argument p node x)
    (λ y. let g : Reference p.room (cells p.words) p.variables node x = argument_reference p node x y in
    let g' : Reference p.room (cells q.words) p.variables node x = reference_same p.room (λ i m. s i (omega arith)) g in
    let z : is_argument q node x ≡ true = reference_accepted q node x (rw (r, v) at g') (λ m. let k = argument_from p node x y (omega arith) in omega arith) in
    rw z (nodes_elsewhere p q arities top r v f s rest (suc at) node left (omega arith) (omega arith) (rw y at e)))
    (λ y. true_false e (rw y))

-- Words that are accepted and others behind them that are accepted too.
nodes_behind : (p : Place) (arities xs ys : List ℕ) (at node left : ℕ) → nodes p arities xs at node left ≡ true
    → ((n : ℕ) → nodes p arities ys (at + length xs) n 0 ≡ true) → nodes p arities (xs ++ ys) at node left ≡ true
nodes_behind p arities [] ys at node zero e f = let z : at + 0 ≡ at = omega arith in rw z at (f node)
nodes_behind p arities [] ys at node (suc left) e f = true_false e refl
nodes_behind p arities (x ∷ xs) ys at node zero e f = by_bool (is_header arities x)
    (λ y. rw y (nodes_behind p arities xs ys (suc at) at (arity_of x) (rw y at e)
    (λ n. let z : at + suc (length xs) ≡ suc at + length xs = omega arith in rw z at (f n))))
    (λ y. true_false e (rw y))
nodes_behind p arities (x ∷ xs) ys at node (suc left) e f = by_bool (is_argument p node x)
    (λ y. rw y (nodes_behind p arities xs ys (suc at) node left (rw y at e)
    (λ n. let z : at + suc (length xs) ≡ suc at + length xs = omega arith in rw z at (f n))))
    (λ y. true_false e (rw y))

-- Where no arguments are to come, it does not matter of which node.
nodes_any : (p : Place) (arities xs : List ℕ) (at m n : ℕ) → nodes p arities xs at m 0 ≡ nodes p arities xs at n 0
nodes_any p arities [] at m n = refl
nodes_any p arities (x ∷ xs) at m n = refl

-- A part is in two where it is cut.
slice_append : (w : List ℕ) (from mid to : ℕ) → from ≤ mid → mid ≤ to → to ≤ length w → slice from to w ≡ slice from mid w ++ slice mid to w
slice_append w from mid to a b c =
    let n = length-take-le mid w (omega arith) in
    let d : mid + (to - mid) ≡ to = omega arith in
    let t : take (mid + (to - mid)) w ≡ take mid w ++ take (to - mid) (drop mid w) = take-add mid (to - mid) w in
    let t' : take to w ≡ take mid w ++ take (to - mid) (drop mid w) = rw d at t in
    rw (t', drop-append-le from (take mid w) (take (to - mid) (drop mid w)) (omega arith), drop_at (take mid w) (take (to - mid) (drop mid w)) mid n)

-- Words in form behind words in form are in form with them.
pub form_append : (w : List ℕ) (from mid to room nv : ℕ) (arities : List ℕ) → from ≤ mid → mid ≤ to → to ≤ length w
    → in_form w from mid room nv arities ≡ true → in_form w mid to room nv arities ≡ true → in_form w from to room nv arities ≡ true
unfolding in_form
form_append w from mid to room nv arities a b c e d =
    let m = length-slice from mid w (omega arith) in
    let n = length-slice mid to w c in
    let p : Place = record { words = w; room = room; variables = nv; from = mid } in
    let q : Place = record { words = w; room = room; variables = nv; from = from } in
    let z : from + length (slice from mid w) ≡ mid = omega arith in
    let y : nodes q arities (slice mid to w) mid mid 0 ≡ true =
    nodes_elsewhere p q arities to refl refl a (λ i l. refl) (slice mid to w) mid mid 0 (omega arith) (omega arith) d in
    rw (slice_append w from mid to a b c) (nodes_behind q arities (slice from mid w) (slice mid to w) from from 0 e
    (λ i. rw z (nodes_any q arities (slice mid to w) mid i mid ∙ y)))

-- The reference of a single term denotes it.
pub lying_one : {arities : List ℕ} {t : Term} {w : List ℕ} {u r u' : ℕ} → Lying arities t w u (r ∷ []) u' → denote pattern_room (cells w) r ≡ t
lying_one {arities} {t} {w} {u} {r} h = (cons_inj (denote pattern_room (cells w) r) t nil nil h.denotes).0

-- Laid words whose variables are below nv.
module _ {k : Kind} {arities : List ℕ} {t : Syn k} {w : List ℕ} {u : ℕ} {rs : List ℕ} {u' : ℕ} (h : Lying arities t w u rs u') (nv : ℕ) (below : Below nv t) where
  -- A reference that is a variable is below nv.
  pub lying_reference : (i : ℕ) → i < length rs → Reference pattern_room (cells w) nv u' (get_or rs i 0)
  lying_reference i l =
      let r = h.reference i l in
      record { variable = λ v. below_mem nv t below (get_or rs i 0) (h.occurs i l v); node = r.node; header = r.header }

  -- An argument that is a variable is below nv.
  lying_argument : (a i : ℕ) → u ≤ a → a < u' → headers ≤ get_or w a 0 → i < arity_of (get_or w a 0) → Reference pattern_room (cells w) nv a (get_or w (a + suc i) 0)
  lying_argument a i m l b j =
      let r = h.formed.arguments a i l b j in
      let f = h.formed.fits a l b in
      record {
        variable = λ v. below_mem nv t below (get_or w (a + suc i) 0) (h.variable (a + suc i) (omega arith) (omega arith) v);
        node = r.node;
        header = r.header;
      }

  -- If the words before have variables below nv, then so have all.
  pub lying_formed : WellFormed pattern_room (cells w) nv u → WellFormed pattern_room (cells w) nv u'
  lying_formed g = record {
    fits = h.formed.fits;
    arguments = λ a i l b j. ⊎_elim (λ m. g.arguments a i m b j) (λ m. lying_argument a i m l b j) (low_or_high pattern_room a u);
  }

  -- Arena's test by one pass accepts them.
  pub lying_form : in_form w u u' pattern_room nv arities ≡ true
  unfolding in_form
  lying_form = nodes_yes (record { words = w; room = pattern_room; variables = nv; from = u }) arities u u' u h.there
      (λ a i m l b j.
      let r = lying_argument a i m l b j in
      let f = h.formed.fits a l b in
      let s = h.small in
      reference_accepted (record { words = w; room = pattern_room; variables = nv; from = u }) a (get_or w (a + suc i) 0) r
      (λ v. let n = r.node v in h.from_on (a + suc i) (omega arith) (omega arith) v (omega arith)))
      h.chain

-- Rules

-- The words of a rule lie in w: those of its premises from u up to u₁, and those of its conclusion from there up to u₂.
pub record RuleLying (arities : List ℕ) (R : Rule) (w : List ℕ) (u : ℕ) (rs : List ℕ) (u₁ r u₂ : ℕ) : Type 0 where
  pub premises : Lying arities R.premises w u rs u₁
  pub conclusion : Lying arities R.conclusion w u₁ (r ∷ []) u₂

-- What laying a rule gives.
pub record RuleLaid (arities : List ℕ) (R : Rule) (w : List ℕ) (u : ℕ) (rs : List ℕ) (u₁ r : ℕ) (w' : List ℕ) (u₂ : ℕ) : Type 0 where
  -- the new words are those of the rule,
  pub lying : RuleLying arities R w' u rs u₁ r u₂
  -- and no other word changes.
  pub kept : length w' ≡ length w
  pub low : Same pattern_room (cells w) (cells w') u
  pub high : (i : ℕ) → u₂ ≤ i → get_or w' i 0 ≡ get_or w i 0

-- Its premises are laid first, and its conclusion behind them.
pub rule_laid : (arities : List ℕ) (R : Rule) (w : List ℕ) (u : ℕ) (rs w₁ : List ℕ) (u₁ r : ℕ) (w₂ : List ℕ) (u₂ : ℕ)
    → Layable arities (cons R.conclusion R.premises) w u → lay R.premises w u ≡ laid rs w₁ u₁ → lay R.conclusion w₁ u₁ ≡ laid (r ∷ []) w₂ u₂
    → RuleLaid arities R w u rs u₁ r w₂ u₂
rule_laid arities R w u rs w₁ u₁ r w₂ u₂ ready e d =
    let a = ready.room in
    let b = ready.small in
    let h = lay_laid arities R.premises w u rs w₁ u₁
    (record { formed = ready.formed; room = omega arith; small = omega arith; below = ready.below.1; fits = ready.fits.1 }) e in
    let used = h.lying.used in
    let kept = h.kept in
    let g = lay_laid arities R.conclusion w₁ u₁ (r ∷ []) w₂ u₂
    (record { formed = h.lying.formed; room = omega arith; small = omega arith; below = ready.below.0; fits = ready.fits.0 }) d in
    let used' = g.lying.used in
    let kept' = g.kept in
    let there = h.lying.there in
    record {
      lying = record { premises = lying_same g.low (omega arith) h.lying; conclusion = g.lying };
      kept = g.kept ∙ h.kept;
      low = λ i l. h.low i l ∙ g.low i (omega arith);
      high = λ i l. g.high i l ∙ h.high i (omega arith);
    }

-- Words written behind a rule change nothing.
pub rule_same : {arities : List ℕ} {R : Rule} {w w' : List ℕ} {u : ℕ} {rs : List ℕ} {u₁ r u₂ : ℕ} → Same pattern_room (cells w) (cells w') u₂ → u₂ ≤ length w'
    → RuleLying arities R w u rs u₁ r u₂ → RuleLying arities R w' u rs u₁ r u₂
rule_same s there h =
    let a = h.conclusion.used in
    record { premises = lying_same (λ i l. s i (omega arith)) (omega arith) h.premises; conclusion = lying_same s there h.conclusion }

-- A variable of a term is in every list that covers it.
covers_mem : {k : Kind} (e : List ℕ) (t : Syn k) (x : ℕ) → Covers e t → mem x t ≡ true → elem x e ≡ true
unfolding mem
covers_mem e (var y) x c m = let d : x ≡ y = same_true m in rw d c
covers_mem e (app f ts) x c m = covers_mem e ts x c m
covers_mem e nil x c m = true_false m refl
covers_mem e (cons t ts) x c m = by_bool (mem x t) (λ p. covers_mem e t x c.0 p) (λ p. covers_mem e ts x c.1 (rw p at m))

-- Meeting premises makes no variable stand twice.
met_back_variables : (ts : Terms) (e : List ℕ) → Below pattern_room ts → Variables e → Variables (met_back ts e)
met_back_variables nil e b v = v
met_back_variables (cons t ts) e b v = met_variables t (met_back ts e) b.0 (met_back_variables ts e b.1 v)

-- The table that meeting the conclusion and then the premises leaves has each variable's place.
pub records_placed : (R : Rule) (table : List (Option ℕ)) (count : ℕ) → Records (all_vars R) table count
    → (x : ℕ) → elem x (all_vars R) ≡ true → get_or (place_numbers table) x 0 ≡ place (all_vars R) x
records_placed R table count h x p = place_number table x (records_earlier (all_vars R) h (grows_refl (all_vars R)) x p).0

-- Laid words, each of whose variables has a place below n.
module _ {k : Kind} {arities : List ℕ} {t : Syn k} {w : List ℕ} {u : ℕ} {rs : List ℕ} {u' : ℕ} (h : Lying arities t w u rs u') (places : List ℕ) (n : ℕ)
    (numbers : (x : ℕ) → mem x t ≡ true → (x < length places) × (get_or places x 0 < n)) where
  -- The words are a part that can be copied.
  pub lying_part : Part w places u (u' - u) n
  lying_part =
      let a = h.used in
      let b = h.there in
      let c = h.small in
      let e : u + (u' - u) ≡ u' = omega arith in
      record {
        there = omega arith;
        low = omega arith;
        formed = rw e h.formed;
        listed = λ i l v. (numbers (get_or w (u + i) 0) (h.variable (u + i) (omega arith) (omega arith) v)).0;
        numbered = λ i l v. (numbers (get_or w (u + i) 0) (h.variable (u + i) (omega arith) (omega arith) v)).1;
        inside = λ i l v d. h.from_on (u + i) (omega arith) (omega arith) v d;
        address = λ i l v d. let y = h.earlier (u + i) (omega arith) (omega arith) v d in omega arith;
      }

  -- And each reference is a variable with a place or a node of theirs.
  pub lying_root : (i : ℕ) → i < length rs → Root w places u (u' - u) n (get_or rs i 0)
  lying_root i l =
      let a = h.used in
      let r = h.reference i l in
      record {
        listed = λ v. (numbers (get_or rs i 0) (h.occurs i l v)).0;
        numbered = λ v. (numbers (get_or rs i 0) (h.occurs i l v)).1;
        from_on = λ v. h.new i l v;
        below = λ v. let y = r.node v in omega arith;
        header = λ v. r.header v;
      }

-- What is recorded of a rule whose words lie so.
abbrev pub stored_as : Rule → ℕ → ℕ → ℕ → ℕ → Stored
stored_as R u u₁ r u₂ = record { from = u; head = u₂ - u₁; body = u₁ - u; conclusion = r; met = length (head_vars R); variables = length (all_vars R) }

module _ {arities : List ℕ} {R : Rule} {w : List ℕ} {u : ℕ} {rs : List ℕ} {u₁ r u₂ : ℕ} (h : RuleLying arities R w u rs u₁ r u₂) where
  -- Its references denote its premises,
  pub rule_premises : (stored : Stored) → (rule_of w rs stored).premises ≡ R.premises
  unfolding rule_of
  rule_premises stored = h.premises.denotes

  -- and its conclusion.
  pub rule_conclusion : (stored : Stored) → stored.conclusion ≡ r → (rule_of w rs stored).conclusion ≡ R.conclusion
  unfolding rule_of
  rule_conclusion stored e = rw e (lying_one h.conclusion)

  -- Arena's test accepts its words in one.
  pub rule_form : (nv : ℕ) → Below nv R.premises → Below nv R.conclusion → in_form w u u₂ pattern_room nv arities ≡ true
  rule_form nv b c =
      let p = h.premises.used in
      let q = h.conclusion.used in
      form_append w u u₁ u₂ pattern_room nv arities (omega arith) (omega arith) h.conclusion.there (lying_form h.premises nv b) (lying_form h.conclusion nv c)

  -- With a table of places it is a stored rule in form. Its variables are below nv.
  module _ (places : List ℕ) (nv : ℕ) (long : nv ≤ length places) (premises_below : Below nv R.premises) (conclusion_below : Below nv R.conclusion)
      (placed : (x : ℕ) → elem x (all_vars R) ≡ true → get_or places x 0 ≡ place (all_vars R) x) where
    -- A premise's variable has a place among all variables,
    premise_numbers : (x : ℕ) → mem x R.premises ≡ true → (x < length places) × (get_or places x 0 < length (all_vars R))
    premise_numbers x m =
        let b = below_mem nv R.premises premises_below x m in
        let e = covers_mem (all_vars R) R.premises x (met_back_covers R.premises (head_vars R)) m in
        let p = placed x e in
        let l = place_lt x (all_vars R) e in
        (omega arith, omega arith)

    -- and one of the conclusion among those met first.
    conclusion_numbers : (x : ℕ) → mem x R.conclusion ≡ true → (x < length places) × (get_or places x 0 < length (head_vars R))
    conclusion_numbers x m =
        let b = below_mem nv R.conclusion conclusion_below x m in
        let e = covers_mem (head_vars R) R.conclusion x (met_covers R.conclusion []) m in
        let g = met_back_grows R.premises (head_vars R) in
        let p = placed x (covers_grows (var x) (head_vars R) (all_vars R) g e) in
        let q : place (all_vars R) x ≡ place (head_vars R) x = ap (λ (l : List ℕ). place l x) g.1 ∙ place_append x (head_vars R) g.0 e in
        let l = place_lt x (head_vars R) e in
        (omega arith, omega arith)

    -- The references stand for the rule, so the same variables are met.
    same_head : head_vars (rule_of w rs (stored_as R u u₁ r u₂)) ≡ head_vars R
    same_head = ap (λ (t : Term). met t []) (rule_conclusion (stored_as R u u₁ r u₂) refl)

    same_all : all_vars (rule_of w rs (stored_as R u u₁ r u₂)) ≡ all_vars R
    same_all = ap₂ (λ (ts : Terms) (e : List ℕ). met_back ts e) (rule_premises (stored_as R u u₁ r u₂)) same_head

    -- The rule's record is in form.
    pub stored_rule : StoredRule w rs places (stored_as R u u₁ r u₂)
    stored_rule =
        let a = h.premises.used in
        let b = h.conclusion.used in
        let e : u + (u₁ - u) ≡ u₁ = omega arith in
        record {
          body_part = lying_part h.premises places (length (all_vars R)) premise_numbers;
          head_part = rw e (lying_part h.conclusion places (length (head_vars R)) conclusion_numbers);
          premise = lying_root h.premises places (length (all_vars R)) premise_numbers;
          conclusion = rw e (lying_root h.conclusion places (length (head_vars R)) conclusion_numbers 0 (omega arith));
          head_words = let q : words R.conclusion ≡ u₂ - u₁ = omega arith in sym (ap words (rule_conclusion (stored_as R u u₁ r u₂) refl) ∙ q);
          body_words = let q : words R.premises ≡ u₁ - u = omega arith in sym (ap words (rule_premises (stored_as R u u₁ r u₂)) ∙ q);
          head_variables = sym (ap length same_head);
          all_variables = sym (ap length same_all);
          few = variables_few (all_vars R)
              (met_back_variables R.premises (head_vars R) h.premises.below (met_variables R.conclusion [] h.conclusion.below tt));
          placed = rw same_all placed;
        }

-- A rule laid behind well formed words, with a table of 64 places, is a stored rule in form.
pub lay_stored : (arities : List ℕ) (R : Rule) (w : List ℕ) (u : ℕ) (rs w₁ : List ℕ) (u₁ r : ℕ) (w₂ : List ℕ) (u₂ : ℕ)
    → Layable arities (cons R.conclusion R.premises) w u → lay R.premises w u ≡ laid rs w₁ u₁ → lay R.conclusion w₁ u₁ ≡ laid (r ∷ []) w₂ u₂
    → (places : List ℕ) → pattern_room ≤ length places → ((x : ℕ) → elem x (all_vars R) ≡ true → get_or places x 0 ≡ place (all_vars R) x)
    → StoredRule w₂ rs places (stored_as R u u₁ r u₂)
lay_stored arities R w u rs w₁ u₁ r w₂ u₂ ready e d places long placed =
    stored_rule (rule_laid arities R w u rs w₁ u₁ r w₂ u₂ ready e d).lying places pattern_room long ready.below.1 ready.below.0 placed

-- Stored rules, when words are written behind them

-- A part can still be copied,
part_same : {w w' places : List ℕ} {from count n : ℕ} → Same pattern_room (cells w) (cells w') (from + count) → from + count ≤ length w'
    → Part w places from count n → Part w' places from count n
part_same {w} {w'} {places} {from} {count} {n} s there h = record {
  there = there;
  low = h.low;
  formed = formed_same pattern_room s h.formed;
  listed = λ i l v. let q : get_or w (from + i) 0 ≡ get_or w' (from + i) 0 = s (from + i) (omega arith) in
      let y = h.listed i l (omega arith) in omega arith;
  numbered = λ i l v. let q : get_or w (from + i) 0 ≡ get_or w' (from + i) 0 = s (from + i) (omega arith) in
      let v' : get_or w (from + i) 0 < pattern_room = omega arith in
      let y : get_or places (get_or w (from + i) 0) 0 < n = h.numbered i l v' in rw q at y;
  inside = λ i l v d. let q : get_or w (from + i) 0 ≡ get_or w' (from + i) 0 = s (from + i) (omega arith) in
      let y = h.inside i l (omega arith) (omega arith) in omega arith;
  address = λ i l v d. let q : get_or w (from + i) 0 ≡ get_or w' (from + i) 0 = s (from + i) (omega arith) in
      let y = h.address i l (omega arith) (omega arith) in omega arith;
}

-- its references are still in form,
root_same : {w w' places : List ℕ} {from count n r : ℕ} → Same pattern_room (cells w) (cells w') (from + count) → Root w places from count n r → Root w' places from count n r
root_same {w} {w'} {places} {from} {count} {n} {r} s h = record {
  listed = h.listed;
  numbered = h.numbered;
  from_on = h.from_on;
  below = h.below;
  header = λ v. let b = h.below v in
      let q : get_or w (r - pattern_room) 0 ≡ get_or w' (r - pattern_room) 0 = s (r - pattern_room) (omega arith) in
      let y = h.header v in omega arith;
}

-- and denote the same terms.
root_denotes : {w : List ℕ} (w' : List ℕ) {places : List ℕ} {from count n r : ℕ} → Same pattern_room (cells w) (cells w') (from + count) → Part w places from count n
    → Root w places from count n r → pattern_of w r ≡ pattern_of w' r
root_denotes {w} w' {places} {from} {count} {n} {r} s p h =
    frame_denote pattern_room (cells w) pattern_room (from + count) p.formed (cells w') s r
    (record { variable = λ v. v; node = λ v. let b = h.below v in omega arith; header = λ v. h.header v })

module _ {w : List ℕ} (w' : List ℕ) {rs places : List ℕ} {stored : Stored} (s : Same pattern_room (cells w) (cells w') (stored.from + stored.body + stored.head))
    (there : stored.from + stored.body + stored.head ≤ length w') (h : StoredRule w rs places stored) where
  -- It stands for the same rule,
  pub stored_means : rule_of w rs stored ≡ rule_of w' rs stored
  unfolding rule_of
  stored_means = ap₂ (λ (ts : Terms) (t : Term). record { name = []; sorts = []; premises = ts; conclusion = t })
      (terms_same pattern_room (pattern_of w) (pattern_of w') rs (λ i l. root_denotes w' (λ j m. s j (omega arith)) h.body_part (h.premise i l)))
      (root_denotes w' s h.head_part h.conclusion)

  -- and is in form.
  pub stored_same : StoredRule w' rs places stored
  stored_same =
      let e = stored_means in
      record {
        body_part = part_same (λ j m. s j (omega arith)) (omega arith) h.body_part;
        head_part = part_same s there h.head_part;
        premise = λ i l. root_same (λ j m. s j (omega arith)) (h.premise i l);
        conclusion = root_same s h.conclusion;
        head_words = h.head_words ∙ ap (λ (R : Rule). words R.conclusion) e;
        body_words = h.body_words ∙ ap (λ (R : Rule). words R.premises) e;
        head_variables = h.head_variables ∙ ap (λ (R : Rule). length (head_vars R)) e;
        all_variables = h.all_variables ∙ ap (λ (R : Rule). length (all_vars R)) e;
        few = h.few;
        placed = rw e at h.placed;
      }
