-- The rules in use, lent as a part of the table: what is asked over the table is asked over the part, and what is left over the part is left over
-- the table.
use Rattle.std.specs.Prelude.{ℕ, zero, suc, ◌+◌, ◌≤◌, ◌<◌, ◌≡◌, refl, List, ◌∷◌, length, take}
use Rattle.std.proofs.Common.{arith, sym, ap, ap₂, ◌∙◌, subst}
use Rattle.names.specs.Symbols.{Rows, column, row_at}
use Rattle.names.specs.UsedLaws.{used_length, row_used}
use Rattle.words.specs.Lexer.{capped_of}
use Rattle.words.specs.declared.Limits.{Limits}
use Rattle.attempts.specs.StoredRules.{StoredRule, RuleInForm}
use Rattle.attempts.specs.declared.SearchLimits.{SearchLimits}
use Rattle.arena.specs.Copies.{term_room}
use Rattle.bindings.specs.Stored.{held}
use Rattle.resolution.specs.Rules.{Rule}
use Rattle.resolution.specs.Search.{within, Verdict, prove}
use Rattle.rules.specs.StoredRows.{heads_in, places_in, stored_in}
use Rattle.rule_checks.specs.RuleForm.{rule_in}
use Rattle.search_machine.specs.State.{term, rules_from, RulesStored, RulesInForm}
use Rattle.search_machine.specs.Allowed.{Allowed}
use Rattle.sessions.specs.Answers.{Answer, Refused, Proved, Nothing, Undecided}
use Rattle.sessions.specs.declared.SessionCounts.{SessionCounts}
use Rattle.prover.specs.Preparing.{search_limits}
use Rattle.prover.specs.Searching.{SearchAsked, SearchSays, SearchLeft}
use Rattle.prover.specs.ProvingLaws.{allowed_is}
use Rattle.prover.specs.declared.preparing.StoredGoal.{StoredGoal}

-- What the search may use, with the rules of the part.
pub allowed_used : (rules : Rows) (n : ℕ) → n ≤ length rules → (limits : Limits) {s : SearchLimits} {l : Limits} → s ≡ search_limits limits
    → l ≡ capped_of limits
    → ◌≡◌ {A = Allowed} (record { limits = s; frames = l.steps; rules = length (take n rules) })
    (record { limits = search_limits limits; frames = (capped_of limits).steps; rules = n })
allowed_used rules n lent limits {s} {l} e f =
    let with_rules : ℕ → Allowed = λ k. record { limits = s; frames = l.steps; rules = k } in
    ap with_rules (used_length rules n lent) ∙ allowed_is n limits e f

module _ (a : Allowed) (P : List ℕ) (R : Rows) {m : ℕ} (is : a.rules ≡ m) (lent : m ≤ length R) where
  row_same : (r : ℕ) → r < a.rules → row_at (take m R) r ≡ row_at R r
  row_same r l = row_used R m lent r (omega arith)

  rules_same : (text : List ℕ) (r k : ℕ) → r + k ≤ a.rules → rules_from text P (take m R) r k ≡ rules_from text P R r k
  rules_same text r zero l = refl
  rules_same text r (suc k) l =
      ap₂ (λ (x : List ℕ) (Rs : List Rule). rule_in text P x ∷ Rs) (row_same r (omega arith)) (rules_same text (suc r) k (omega arith))

  stored_same : RulesStored P R a.rules → RulesStored P (take m R) a.rules
  stored_same h =
      let long = used_length R m lent in
      record {
        lent = omega arith;
        few = h.few;
        stored = λ r l. subst (λ (row : List ℕ). StoredRule P (heads_in row) (places_in row) (stored_in row)) (sym (row_same r l)) (h.stored r l);
        premises = λ r l. subst (λ (row : List ℕ). column row 4 ≤ 16) (sym (row_same r l)) (h.premises r l);
        variables = λ r l. subst (λ (row : List ℕ). column row 3 ≤ 64) (sym (row_same r l)) (h.variables r l);
      }

  in_form_same : (arities : List ℕ) → RulesInForm P R a.rules arities → RulesInForm P (take m R) a.rules arities
  in_form_same arities h r l = subst (λ (row : List ℕ). RuleInForm P (stored_in row) arities) (sym (row_same r l)) (h r l)

  pub asked_used : {F : Rows} {W : List ℕ} {T L M S N : Rows} {g : StoredGoal} {n : SessionCounts} {s d : ℕ}
      → SearchAsked a P R F W T L M S N g n s d → SearchAsked a P (take m R) F W T L M S N g n s d
  asked_used h =
      let k = h.asking in
      record {
        asking = record {
          rules = stored_same k.rules;
          well = k.well;
          refers = k.refers;
          scratch = k.scratch;
          frames = k.frames;
          steps = k.steps;
          small = k.small;
          words_clear = k.words_clear;
          frames_clear = k.frames_clear;
        };
        deep = h.deep;
        named = h.named;
      }

  says_used : (F F' : Rows) (W W' : List ℕ) (T T' N N' : Rows) (g : StoredGoal) (n : SessionCounts) (v : Verdict) (q : Answer)
      → SearchSays a P (take m R) F F' W W' T T' N N' g n v q → SearchSays a P R F F' W W' T T' N N' g n v q
  says_used F F' W W' T T' N N' g n v (Refused e) h = h
  says_used F F' W W' T T' N N' g n v (Proved s nodes c) h =
      let p = h.proven in
      let e = p.extended in
      record {
        counts = h.counts;
        names_are = h.names_are;
        proven = record {
          tree = p.tree;
          value = p.value;
          extended = record {
            later = e.later;
            longer = e.longer;
            added = e.added;
            well = e.well;
            words_long = e.words_long;
            words_kept = e.words_kept;
            words_clear = e.words_clear;
            stays_in_form = λ arities f. e.stays_in_form arities (in_form_same arities f);
          };
          room = p.room;
          count = p.count;
          lists = p.lists;
          frames_long = p.frames_long;
          frames_clear = p.frames_clear;
        };
      }
  says_used F F' W W' T T' N N' g n v (Nothing s c) h = h
  says_used F F' W W' T T' N N' g n v (Undecided s c) h = h

  pub left_used : {F F' : Rows} {W W' : List ℕ} {T T' L L' M M' S S' N N' : Rows} {g : StoredGoal} {n : SessionCounts} {s d : ℕ} {r : Answer}
      → SearchLeft a P (take m R) F F' W W' T T' L L' M M' S S' N N' g n s d r
      → SearchLeft a P R F F' W W' T T' L L' M M' S S' N N' g n s d r
  left_used {F} {F'} {W} {W'} {T} {T'} {N = N} {N' = N'} {g = g} {n = n} {s = s} {d = d} {r = r} h = record {
    says = λ text. says_used F F' W W' T T' N N' g n _ r (subst (λ (Rs : List Rule). SearchSays a P (take m R) F F' W W' T T' N N' g n
        (prove (within a.limits.variables a.limits.words) Rs s d g.words (held term_room W T n.bound) (term W g.node) g.variables) r)
        (rules_same text 0 a.rules (omega arith)) (h.says text));
    links = h.links;
    marks = h.marks;
    stack = h.stack;
  }
