-- Laws of names: a session's names only grow, and the variables of a goal are those of the names that stand when it has been compiled.
-- So the same name in two goals is one variable, and different names are two (`one_variable`).
use Rattle.std.specs.Prelude.{ℕ, zero, suc, ◌+◌, ◌<◌, ◌≡◌, refl, Bool, true, false, List, [], ◌∷◌, ◌++◌, length, get_or}
use Rattle.std.proofs.Common.{sym, ap, ◌∙◌, append_assoc, append-nil, arith, length-append}
use Rattle.std.proofs.Math.ListN.{get_or-append}
use Rattle.terms.specs.Term.{var, Term, sub, Below}
use Rattle.terms.specs.TermLaws.{sub_agree}
use Rattle.resolution.specs.Rules.{Rule}
use Rattle.resolution.specs.Search.{Verdict, refusal, proved, nothing, undecided}
use Rattle.resolution.specs.Session.{Name, Named, Session, Compiled, refuses, compiles, Query, too_much, variable_at, goal_of, enter}
use Rattle.resolution.specs.Session.{left, verdict_of, answered, tested, ask}
use Rattle.resolution.specs.Naming.{Grown, no_name, name_at, OneVariable}

-- Names only grow

pub grown_refl : (ns : List Named) → Grown ns ns
grown_refl ns = ([], sym (append-nil ns))

pub grown_trans : (ns ms ls : List Named) → Grown ns ms → Grown ms ls → Grown ns ls
grown_trans ns ms ls g h = (g.0 ++ h.0, h.1 ∙ ap (λ (l : List Named). l ++ h.0) g.1 ∙ append_assoc ns g.0 h.0)

pub enter_grown : (ns : List Named) (c : ℕ) (new : List Name) → Grown ns (enter ns c new)
enter_grown ns c [] = grown_refl ns
enter_grown ns c (n ∷ new) = grown_trans ns (ns ++ (record { name = n; variable = c } ∷ [])) (enter ns c (n ∷ new))
    (record { name = n; variable = c } ∷ [], refl) (enter_grown (ns ++ (record { name = n; variable = c } ∷ [])) (suc c) new)

left_grown : (S : Session) (new : List Name) (v : Verdict) → Grown S.names (left S new v).names
left_grown S new (refusal n) = grown_refl S.names
left_grown S new (proved β st u c m) = enter_grown S.names S.variables new
left_grown S new (nothing u c) = enter_grown S.names S.variables new
left_grown S new (undecided u c) = enter_grown S.names S.variables new

-- An answer only adds names.
pub answer_grown : (rules : List Rule) (S : Session) (q : Query) → Grown S.names (ask rules S q).session.names
answer_grown rules S q = go (too_much q.steps q.depth q.limits)
  where
    compiled : (k : Compiled) → Grown S.names (answered rules S q.steps q.depth q.limits k).session.names
    compiled (refuses n) = grown_refl S.names
    compiled (compiles new p) = left_grown S new (verdict_of rules S q.steps q.depth q.limits (length new) (goal_of S p))

    go : (t : Bool) → Grown S.names (tested rules S q t).session.names
    go true = grown_refl S.names
    go false = compiled (q.compile S.names)

-- A goal's variables

at_grown : (ns ms : List Named) → Grown ns ms → (i : ℕ) → i < length ns → name_at ms i ≡ name_at ns i
at_grown ns ms g i l = ap (λ (l : List Named). name_at l i) g.1 ∙ get_or-append ns g.0 no_name i l

-- The variable at a place is that of the name there, once the new names are entered.
pub variable_named : (ns : List Named) (c : ℕ) (new : List Name) (i : ℕ) → i < length ns + length new
    → variable_at ns c i ≡ (name_at (enter ns c new) i).variable
variable_named ns c new i l = let z : 0 + i ≡ i = omega arith in old ns [] c new i l ∙ ap (λ (j : ℕ). (name_at (enter ns c new) j).variable) z
  where
    -- past the names that stand
    fresh : (ms : List Named) (c : ℕ) (new : List Name) (i : ℕ) → i < length new → c + i ≡ (name_at (enter ms c new) (length ms + i)).variable
    fresh ms c [] i l = absurd (omega arith)
    fresh ms c (n ∷ new) zero l =
        let more : List Named = ms ++ (record { name = n; variable = c } ∷ []) in
        let a = length-append ms (record { name = n; variable = c } ∷ []) in
        let b : length ms + 0 ≡ length ms = omega arith in
        let d : c + 0 ≡ c = omega arith in
        d ∙ sym (ap (λ (x : Named). x.variable) (ap (λ (j : ℕ). name_at (enter more (suc c) new) j) b
        ∙ at_grown more (enter more (suc c) new) (enter_grown more (suc c) new) (length ms) (omega arith)
        ∙ seam ms (record { name = n; variable = c })))
      where
        seam : (ms : List Named) (x : Named) → name_at (ms ++ (x ∷ [])) (length ms) ≡ x
        seam [] x = refl
        seam (m ∷ ms) x = seam ms x
    fresh ms c (n ∷ new) (suc i) l =
        let more : List Named = ms ++ (record { name = n; variable = c } ∷ []) in
        let a = length-append ms (record { name = n; variable = c } ∷ []) in
        let h : suc c + i ≡ (name_at (enter more (suc c) new) (length more + i)).variable = fresh more (suc c) new i (omega arith) in
        let e : length more + i ≡ length ms + suc i = omega arith in
        let d : c + suc i ≡ suc c + i = omega arith in
        d ∙ h ∙ ap (λ (j : ℕ). (name_at (enter more (suc c) new) j).variable) e

    -- the names ms are passed already
    old : (ns ms : List Named) (c : ℕ) (new : List Name) (i : ℕ) → i < length ns + length new
        → variable_at ns c i ≡ (name_at (enter (ms ++ ns) c new) (length ms + i)).variable
    old [] ms c new i l = fresh ms c new i (omega arith)
        ∙ ap (λ (l : List Named). (name_at (enter l c new) (length ms + i)).variable) (sym (append-nil ms))
    old (n ∷ ns) ms c new zero l =
        let b : length ms + 0 ≡ length ms = omega arith in
        let a = length-append ms (n ∷ ns) in
        sym (ap (λ (x : Named). x.variable) (ap (λ (j : ℕ). name_at (enter (ms ++ (n ∷ ns)) c new) j) b
        ∙ at_grown (ms ++ (n ∷ ns)) (enter (ms ++ (n ∷ ns)) c new) (enter_grown (ms ++ (n ∷ ns)) c new) (length ms) (omega arith)
        ∙ seam ms))
      where
        seam : (ms : List Named) → name_at (ms ++ (n ∷ ns)) (length ms) ≡ n
        seam [] = refl
        seam (m ∷ ms) = seam ms
    old (n ∷ ns) ms c new (suc i) l =
        let a = length-append ms (n ∷ []) in
        let h : variable_at ns c i ≡ (name_at (enter ((ms ++ (n ∷ [])) ++ ns) c new) (length (ms ++ (n ∷ [])) + i)).variable =
        old ns (ms ++ (n ∷ [])) c new i (omega arith) in
        let e : length (ms ++ (n ∷ [])) + i ≡ length ms + suc i = omega arith in
        h ∙ ap (λ (j : ℕ). (name_at (enter ((ms ++ (n ∷ [])) ++ ns) c new) j).variable) e
        ∙ ap (λ (l : List Named). (name_at (enter l c new) (length ms + suc i)).variable) (append_assoc ms (n ∷ []) ns)

-- A goal's term has for each of its names that name's variable.
pub goal_named : (S : Session) (new : List Name) (p : Term) → Below (length S.names + length new) p
    → goal_of S p ≡ sub (λ i. var (name_at (enter S.names S.variables new) i).variable) p
goal_named S new p b = sub_agree (length S.names + length new) _ _ (λ i l. ap var (variable_named S.names S.variables new i l)) p b

-- The same name is one variable

-- Where no name and no variable stands twice at the end, two lists of names that grew into it agree.
pub one_variable : (ns ms es : List Named) → Grown ns es → Grown ms es → OneVariable es es → OneVariable ns ms
one_variable ns ms es g h o i j l k =
    let a : length es ≡ length ns + length g.0 = ap length g.1 ∙ length-append ns g.0 in
    let b : length es ≡ length ms + length h.0 = ap length h.1 ∙ length-append ms h.0 in
    let p : name_at es i ≡ name_at ns i = at_grown ns es g i l in
    let q : name_at es j ≡ name_at ms j = at_grown ms es h j k in
    let r = o i j (omega arith) (omega arith) in (
      λ e. let f : (name_at es i).variable ≡ (name_at es j).variable = r.0 (ap (λ (x : Named). x.name.text) p ∙ e
          ∙ sym (ap (λ (x : Named). x.name.text) q)) in
          sym (ap (λ (x : Named). x.variable) p) ∙ f ∙ ap (λ (x : Named). x.variable) q,
      λ e. let f : (name_at es i).name.text ≡ (name_at es j).name.text = r.1 (ap (λ (x : Named). x.variable) p ∙ e
          ∙ sym (ap (λ (x : Named). x.variable) q)) in
          sym (ap (λ (x : Named). x.name.text) p) ∙ f ∙ ap (λ (x : Named). x.name.text) q,
    )
