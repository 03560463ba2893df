-- The rules as the theory has them, and an attempt with one: what `try_stored` asks and what it leaves, for a goal of the machine.
use Rattle.std.specs.Prelude.{ℕ, zero, suc, ◌+◌, ◌-◌, ◌<◌, ◌≡◌, refl, List, [], ◌∷◌, map, length, get_or}
use Rattle.std.proofs.Common.{arith, ap, ap₂, sym, ◌∙◌}
use Rattle.terms.specs.Term.{Term, cons, count}
use Rattle.terms.specs.TermLaws.{count_sub}
use Rattle.terms.specs.Bindings.{Bindings}
use Rattle.arena.specs.Cells.{denote, cells, terms_of}
use Rattle.arena.specs.Copies.{term_room}
use Rattle.arena.specs.Rows.{Rows}
use Rattle.names.specs.Symbols.{column, columns, row_at}
use Rattle.names.specs.SearchLaws.{columns_length}
use Rattle.unifier.specs.Promises.{Scratch}
use Rattle.resolution.specs.Fresh.{all_vars, body, fresh}
use Rattle.resolution.specs.Search.{Limits, attempt}
use Rattle.rules.specs.StoredRows.{heads_in, places_in, stored_in}
use Rattle.attempts.specs.StoredRules.{pattern_of, rule_of}
use Rattle.attempts.specs.Promises.{State, premise_at}
use Rattle.attempts.specs.RuleLaws.{attempt_looks, body_looks}
use Rattle.search_machine.specs.Storage.{RowAsked}
use Rattle.search_machine.specs.State.{term, Refers, span, rule_at, rules_from, arity, RulesStored, premise_ref, Well}
use Rattle.search_machine.specs.Allowed.{Allowed}
use Rattle.search_machine.specs.declared.frames.Frame.{Frame}

-- A rule and those behind it.
pub rules_cons : (text P : List ℕ) (R : Rows) (n r : ℕ) → r < n → rules_from text P R r (n - r)
    ≡ rule_at text P R r ∷ rules_from text P R (suc r) (n - suc r)
rules_cons text P R n r h = ap (rules_from text P R r) (let e : n - r ≡ suc (n - suc r) = omega arith in e)

-- A rule's name and sorts are of no concern to an attempt.
pub attempt_at : (text P : List ℕ) (R : Rows) (r : ℕ) (l : Limits) (β : Bindings) (g : Term) (m c : ℕ)
    → attempt l β g m c (rule_of P (heads_in (row_at R r)) (stored_in (row_at R r))) ≡ attempt l β g m c (rule_at text P R r)
unfolding rule_of
attempt_at text P R r l β g m c = attempt_looks l β g m c (rule_of P (heads_in (row_at R r)) (stored_in (row_at R r)))
    (rule_at text P R r) refl refl

pub body_at : (text P : List ℕ) (R : Rows) (r c : ℕ) → body c (rule_of P (heads_in (row_at R r)) (stored_in (row_at R r)))
    ≡ body c (rule_at text P R r)
unfolding rule_of
body_at text P R r c = body_looks c (rule_of P (heads_in (row_at R r)) (stored_in (row_at R r))) (rule_at text P R r) refl refl

-- How many premises a rule has.
terms_count : (g : ℕ → Term) (row : List ℕ) (j n : ℕ) → count (terms_of g (columns row j n)) ≡ n
unfolding columns
terms_count g row j zero = refl
terms_count g row j (suc n) = ap suc (terms_count g row (suc j) n)

pub premises_count : (text P : List ℕ) (R : Rows) (r : ℕ) → count (rule_at text P R r).premises ≡ arity R r
unfolding arity
premises_count text P R r = terms_count (pattern_of P) (row_at R r) 10 (column (row_at R r) 4)

pub body_count : (text P : List ℕ) (R : Rows) (r c : ℕ) → count (body c (rule_at text P R r)) ≡ count (rule_at text P R r).premises
body_count text P R r c = count_sub (fresh c (all_vars (rule_at text P R r))) (rule_at text P R r).premises

-- Terms of a list in order.
terms_span : (h : ℕ → Term) (f g : ℕ → ℕ) (i : ℕ) (rs : List ℕ) → ((k : ℕ) → k < length rs → f (get_or rs k 0) ≡ g (i + k))
    → terms_of h (map f rs) ≡ span (λ (k : ℕ). h (g k)) i (length rs)
terms_span h f g i [] e = refl
terms_span h f g i (r ∷ rs) e =
    ap₂ cons (ap h (e 0 (omega arith) ∙ ap g (let q : i + 0 ≡ i = omega arith in q)))
    (terms_span h f g (suc i) rs (λ k l. e (suc k) (omega arith) ∙ ap g (let q : i + suc k ≡ suc i + k = omega arith in q)))

-- The premises of an application that was just entered.
pub body_span : (text P : List ℕ) (R : Rows) (W : List ℕ) (x : Frame)
    → terms_of (denote term_room (cells W)) (map (premise_at (places_in (row_at R x.rule)) x.counter (stored_in (row_at R x.rule))
    x.used) (heads_in (row_at R x.rule))) ≡ body x.counter
    (rule_of P (heads_in (row_at R x.rule)) (stored_in (row_at R x.rule)))
    → body x.counter (rule_at text P R x.rule) ≡ span (λ (k : ℕ). term W (premise_ref R x k)) 0 (arity R x.rule)
unfolding arity premise_ref
body_span text P R W x e =
    sym (body_at text P R x.rule x.counter) ∙ sym e
    ∙ terms_span (denote term_room (cells W)) (premise_at (places_in (row_at R x.rule)) x.counter (stored_in (row_at R x.rule))
    x.used)
    (λ (k : ℕ). premise_at (places_in (row_at R x.rule)) x.counter (stored_in (row_at R x.rule)) x.used
    (get_or (heads_in (row_at R x.rule)) k 0)) 0 (heads_in (row_at R x.rule))
    (λ k l. ap (λ (j : ℕ). premise_at (places_in (row_at R x.rule)) x.counter (stored_in (row_at R x.rule)) x.used
    (get_or (heads_in (row_at R x.rule)) j 0)) (let q : k ≡ 0 + k = omega arith in q))
    ∙ ap (span (λ (k : ℕ). term W (premise_at (places_in (row_at R x.rule)) x.counter (stored_in (row_at R x.rule)) x.used
    (get_or (heads_in (row_at R x.rule)) k 0))) 0) (columns_length (row_at R x.rule) 10 (column (row_at R x.rule) 4))

-- The state of an attempt.
pub well_state : {a : Allowed} {W : List ℕ} {T L M S : Rows} {c t u : ℕ} → Well a W T c t u → Scratch term_room a.limits.words L M S
    → State a.limits.variables a.limits.words W T L M S c u t
well_state w s = record { form = w.form; scratch = s; lent_words = w.lent_words; lent_rows = w.lent_rows; enough = w.enough; low = w.low }

pub row_asked : {a : Allowed} {P : List ℕ} {R : Rows} {W : List ℕ} {T L M S : Rows} {c t u g r : ℕ} → RulesStored P R a.rules
    → Well a W T c t u → Scratch term_room a.limits.words L M S
    → Refers W c u g → r < a.rules → RowAsked a.limits.variables a.limits.words P R W T L M S c u t g r
row_asked {r = r} rs w s h l =
    let e = rs.lent in
    record {
      known = omega arith;
      premises = rs.premises r l;
      variables = rs.variables r l;
      asked = record { rule = rs.stored r l; state = well_state w s; refers = h };
    }
