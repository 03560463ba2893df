-- `clashes` meets its contract: where it says so, the heads differ, or those of two arguments at the same place.
use Rattle.std.proofs.Common.{ℕ, suc, ◌≡◌, ◌+◌, ◌-◌, ◌<◌, Bool, true, false, length, get_or, refl, ap, ◌∙◌, sym, subst, arith, rules}
use Rattle.std.specs.Bool.{MatchBool}
use Rattle.std.specs.List.{range_with_len, HoldsAt, AllWithin}
use Rattle.std.proofs.lemmas.Iterator.{serves_from_Range, YieldsList-from_range, cases_from_any}
use Rattle.std.proofs.lemmas.List.FromFn.{length-range_with_len, get_or-range_with_len}
use Rattle.arena.specs.Cells.{cells, arity_of}
use Rattle.arena.specs.Copies.{pattern_room}
use Rattle.attempts.specs.Clashes.{Clashes, heads_clash, arguments_comparable, arguments_clash, goal_in_lem, pattern_in}
use Rattle.attempts.proofs.clashes.Goals as goal

pub returns-then-header-pattern : goal.returns-then-header-pattern
returns-then-header-pattern c =
    let pre = c.requires in
    let l = c.in-Some.ensures in
    λ e. heads_clash pre l.1 l.0 l.2 (rw (c.header-header.ensures, l.3) at c.if-header-pattern.true)

pub any-requires-clause-callable : goal.any-requires-clause-callable
any-requires-clause-callable c =
    serves_from_Range (λ x q e. search rules)
    (λ x low high.
    let l = c.in-Some.ensures in
    let same = rw (c.header-header.ensures, l.3) at c.if-header-pattern.false in
    let below = rw (c.arity_of.ensures, c.header-header.ensures) at high in
    let goal_end = goal_in_lem c.requires l.1 l.0 l.2 in
    let pattern_end = pattern_in c.requires l.1 l.0 l.2 in
    let room = l.0 in
    let place : c.in-Some.end - c.args.terms.room + 1 + x ≡ suc (c.in-Some.end - c.args.terms.room) + x = omega arith in
    let from : c.args.conclusion - 64 + 1 + x ≡ c.in-Some.from + 1 + x = rw l.3 refl in
    let comparable = arguments_comparable c.requires l.1 l.0 l.2 same x below in
    let k = rw (place, from) at comparable in
    let in_words : suc (c.in-Some.end - c.args.terms.room) + x < length c.args.terms.words.now = omega (arith, goal_end, below) in
    let in_pattern : c.in-Some.from + 1 + x < length c.args.pattern.now = rw (sym from) (omega (arith, pattern_end, same, below)) in
    search rules)

-- A place of a range at which the answer was yes.
found : (Yes : ℕ → Type 0) (n : ℕ) (B : Type 0) (r : Bool)
    → MatchBool r ((k : ℕ) × (k < length (range_with_len 0 n)) × HoldsAt Yes (range_with_len 0 n) k) B → r ≡ true → (k : ℕ) × (k < n) × Yes k
found Yes n B true h e =
    let low = subst (λ (m : ℕ). h.0 < m) (length-range_with_len 0 n) h.1 in
    let is : get_or (range_with_len 0 n) h.0 0 ≡ h.0 = get_or-range_with_len 0 n h.0 0 low ∙ (let z : 0 + h.0 ≡ h.0 = omega arith in z) in
    (h.0, low, subst Yes is (h.2 0))
found Yes n B false h e = absurd (let w : false ≡ true = e in cc)

pub returns : goal.returns
returns c = λ e.
    let l = c.in-Some.ensures in
    let w = c.args.terms.words.now in
    let p = c.args.pattern.now in
    let a = c.in-Some.end - c.args.terms.room in
    let b = c.args.conclusion - pattern_room in
    let n = c.arity_of.result in
    let Differ : ℕ → Type 0 = λ i. Clashes c.args.terms.room p w c.args.held.rows.now c.args.held.bound (cells w (a + 1 + i)) (cells p (b + 1 + i)) in
    let hit = found Differ n (AllWithin (λ _. Unit {0}) (range_with_len 0 n) 0 (length (range_with_len 0 n))) c.any.result
    (cases_from_any _ _ c.any.result Differ (λ _. Unit {0}) c.any.ensures.ran (YieldsList-from_range 0 n n refl (omega arith)) (λ x q k. search rules) (λ x q k. (search rules, tt)))
    e in
    let same = rw (c.header-header.ensures, l.3) at c.if-header-pattern.false in
    let arity = c.arity_of.ensures ∙ ap arity_of c.header-header.ensures in
    let below = subst (λ (m : ℕ). hit.0 < m) arity hit.1 in
    arguments_clash c.requires l.1 l.0 l.2 same hit.0 below hit.2
