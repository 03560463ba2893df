-- A node on values.
use Prim.Native.Nat.{ℕ, suc, ◌+◌, ◌-◌, ◌*◌, ◌≤◌, ◌<◌}
use native.Mathlib.Omega.{arith}
use mathlib.Core.Path.{◌≡◌, refl, sym, ap, ap₂, ◌∙◌, subst}
use mathlib.Core.List.{List, ◌∷◌}
use lib.Dec.{ltb}
use lib.ListN.{length, get_or}
use lib.Seq.{sets, length-sets}
use borrow.Author.Tests.{lt-ltb, le-ltb}
use Rattle.terms.specs.Numbers.{by_bool}
use Rattle.terms.specs.Term.{Term, Terms, app, count}
use Rattle.arena.specs.Cells.{headers, cells, denote}
use Rattle.arena.specs.ArgumentLaws.{count_args}
use Rattle.arena.specs.NodeLaws.{HeaderOf, header_of, args_list, push_frame, push_formed, push_reference, push_denotes}
use Rattle.evaluation.specs.Matching.{Built, barred, built, build_node}
use Rattle.clause_matching.specs.Stored.{Formed, value_at}
use Rattle.clause_matching.specs.Building.{built_at, Tells, Stands}
use Rattle.clause_matching.specs.Choice.{values_of}
use Rattle.clause_matching.specs.declared.building.Built.{Built as Answer}
use Rattle.std.specs.Prelude.{Result, Err}
use Rattle.refusals.specs.declared.Refusal.{Refusal}
use Rattle.refusals.specs.Refusals.{number_of}
use Rattle.refusals.specs.declared.Refusal.TheVariants.{OverLimit}
use Rattle.expressions.specs.Nodes.{BuildAsked, BuildAnswered}
use Rattle.expressions.proofs.Forming.{node_formed, barred_at, value_at_lem, used_at}

module _ {words : List ℕ} {used limit symbol : ℕ} {values : List ℕ} (h : BuildAsked words used limit symbol values) where
  abbrev size : ℕ
  size = length values

  counted : count (values_of words values) ≡ size
  counted = count_args (denote 0 (cells words)) (cells values) 0 size

  pub build_refused : limit - used ≤ size → BuildAnswered words used limit symbol values (Err OverLimit) words
  build_refused l = record {
    tells = subst (λ (b : Built _). Tells b (Err OverLimit) words words used limit) (sym over) refl;
    forms = λ arities k o f value u q. barred_at q;
    kept = refl;
  }
    where
      over : build_node limit symbol (values_of words values) used ≡ barred 37
      over = let f = h.fits in let e = counted in rw (lt-ltb limit (used + suc (count (values_of words values))) (omega arith))

  module _ (l : size < limit - used) where
    abbrev header : ℕ
    header = headers + 32 * symbol + size

    abbrev words' : List ℕ
    words' = sets words used (header ∷ values)

    is_header_lem : HeaderOf symbol size header
    is_header_lem = let f = h.few in header_of symbol size (omega arith)

    room : used + 1 + size ≤ length words
    room = let f = h.fits in let r = h.room in omega arith

    small : 0 + used ≤ headers
    small = let f = h.fits in let r = h.low in omega arith

    fits : build_node limit symbol (values_of words values) used ≡ built (app symbol (values_of words values)) (used + 1 + size)
    fits =
        let e = counted in let f = h.fits in
        let a : used + suc (count (values_of words values)) ≡ used + 1 + size = omega arith in
        rw (a, le-ltb limit (used + 1 + size) (omega arith))

    denotes : value_at words' used ≡ app symbol (values_of words values)
    denotes =
        let o : 0 + used ≡ used = omega arith in
        rw o at (push_denotes 0 words 0 used header values h.stored.formed room small is_header_lem.high is_header_lem.arity h.roots)
        ∙ ap₂ app is_header_lem.symbol (sym (args_list 0 (denote 0 (cells words)) (cells values) 0 values (λ i k. let j : 0 + i ≡ i = omega arith in rw j)))

    pub build_done : {now : List ℕ} → now ≡ words' → BuildAnswered words used limit symbol values (built_at used (used + 1 + size)) now
    build_done {now} e = record {
      tells = subst (λ (x : List ℕ). Tells (build_node limit symbol (values_of words values) used) (built_at used (used + 1 + size)) words x used limit) (sym e)
          (subst (λ (b : Built _). Tells b (built_at used (used + 1 + size)) words words' used limit) (sym fits) (used, refl, stands));
      forms = λ arities k o f value u q. rw (used_at q, e) (formed arities k o f);
      kept = ap length e ∙ size_kept;
    }
      where
        size_kept : length words' ≡ length words
        size_kept = length-sets words used (header ∷ values)

        formed : (arities : List ℕ) → symbol < length arities → get_or arities symbol 0 ≡ size → Formed arities words used
            → Formed arities words' (used + 1 + size)
        formed arities k o f =
            let a : used + suc size ≡ used + 1 + size = omega arith in
            let r = room in
            rw a at (node_formed words used symbol values arities (omega arith) h.roots h.few k o f)

        stands : Stands words used limit words' (app symbol (values_of words values)) used (used + 1 + size)
        stands =
            let a : used + suc size ≡ used + 1 + size = omega arith in
            let o : 0 + used ≡ used = omega arith in
            let f = h.fits in let w = h.low in let k = size_kept in let r = h.room in
            record {
              stored = record {
                formed = rw a at (push_formed 0 words 0 used header values h.stored.formed room small is_header_lem.high is_header_lem.arity h.roots);
                within = omega arith;
                low = omega arith;
              };
              root = rw (a, o) at (push_reference 0 words 0 used header values h.stored.formed room small is_header_lem.high is_header_lem.arity h.roots);
              is = denotes;
              same = push_frame 0 words 0 used header values h.stored.formed room small is_header_lem.high is_header_lem.arity h.roots;
              grows = omega arith;
              within = omega arith;
            }

-- What an answer says.
pub built_is : {W W' : List ℕ} {u limit : ℕ} {r : Result Answer Refusal} (b : Built _) {value after : ℕ} → Tells b r W W' u limit → r ≡ built_at value after
    → (t : Term) × (b ≡ built t after) × Stands W u limit W' t value after
built_is (barred e) h q = absurd (rw q at h)
built_is {W} {W'} {u} {limit} {r} (built t n) {value} {after} (v, p, s) q =
    let a : v ≡ value = value_at_lem (sym q ∙ p) in
    let b : n ≡ after = used_at (sym q ∙ p) in
    (t, ap (built t) b, rw (a, b) at s)

pub built_barred : (W W' : List ℕ) (u limit : ℕ) {r : Result Answer Refusal} (b : Built _) {x : Refusal} → Tells b r W W' u limit → r ≡ Err x → b ≡ barred (number_of x)
built_barred W W' u limit (barred e) {x} h q = ap barred (sym (rw q at h))
built_barred W W' u limit (built t n) (v, p, s) q = absurd (let z : ⊥ = cc in z)

pub node_is : (limit f : ℕ) (ts : Terms) (used : ℕ) {t : Term} {u : ℕ} → build_node limit f ts used ≡ built t u → t ≡ app f ts
node_is limit f ts used {t} {u} e = by_bool (ltb limit (used + suc (count ts)))
    (λ b. absurd (let x : barred 37 ≡ built t u = rw b at e in let p : ◌≡◌ {A = ℕ} 0 1 = cc in let z : ⊥ = omega arith in z))
    (λ b. let x : built (app f ts) (used + suc (count ts)) ≡ built t u = rw b at e in let y : t ≡ app f ts = cc in y)

-- One after another.
pub stands_on : {W W₀ W₁ : List ℕ} {u u₀ u₁ limit r r₁ : ℕ} {t t₁ : Term} → Stands W u limit W₀ t r u₀ → Stands W₀ u₀ limit W₁ t₁ r₁ u₁ → Stands W u limit W₁ t₁ r₁ u₁
stands_on a b = record {
  stored = b.stored;
  root = b.root;
  is = b.is;
  same = λ i l. let g = a.grows in a.same i l ∙ b.same i (omega arith);
  grows = (let g = a.grows in let k = b.grows in omega arith);
  within = b.within;
}
