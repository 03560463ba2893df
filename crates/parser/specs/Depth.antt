-- No term of a declaration that is parsed is deeper than 131: a judgment `t = r` with 64 parentheses open in t or r.
use Rattle.std.specs.Prelude.{ℕ, ◌≤◌, ◌≡◌, eqb}
use mathlib.Core.List.{List, [], ◌∷◌}
use Rattle.std.proofs.Math.ListN.{get_or}
use Rattle.term_parser.specs.Parsing.{Tokens, kind_of, last_line, Parsed, parsed, follow, sign_of, repeat}
use Rattle.term_parser.specs.Lists.{name, title_of, arrows_of, term, app, judgments_of, patterns_of}
use Rattle.term_parser.specs.ReaderLaws.{Each, Comes, comes_parsed, plus_comes, follow_comes, past_comes, when_comes, repeat_comes, behind_comes, separated_comes}
use Rattle.term_parser.specs.Depth.{depth, AtMost, apps_shallow, terms_shallow}
use Rattle.parser.specs.Source.{Clause, Declaration, sort, ctor, pred, rule, def, theorem, eval, check}
use Rattle.parser.specs.Declarations.{Declared, ends_in_prop, binders_of, tactic_of, behind_bar, sort_of, ctor_of, clause_of, pred_of, rule_of, def_of, theorem_of, eval_of, check_of, body_of, declaration_of, parse_of}

-- The patterns and the right side of a clause are at most 130 deep: they are no judgments, so no `=` stands there outside parentheses.
pub record ShallowClause (c : Clause) : Type 0 where
  pub patterns : Each (AtMost 130) c.patterns
  pub body : depth c.body ≤ 130

-- Every term of a declaration is at most 131 deep, and in a clause at most 130.
abbrev pub Shallow : Declaration → Type 0
Shallow (sort p) = Unit {0}
Shallow (ctor p ss) = Unit {0}
Shallow (pred p ss) = Unit {0}
Shallow (rule p js) = Each (AtMost 131) js
Shallow (def p ss cs) = Each ShallowClause cs
Shallow (theorem p bs js t) = Each (AtMost 131) js
Shallow (eval t) = depth t ≤ 131
Shallow (check t) = depth t ≤ 131

abbrev pub ShallowDeclared : Declared → Type 0
ShallowDeclared d = Shallow d.declaration

-- Laws

module _ (text : List ℕ) (last : ℕ) (ts : Tokens) where
  judgments_comes : Comes (Each (AtMost 131)) (judgments_of text last ts)
  judgments_comes = separated_comes (AtMost 131) (term text last) 15 (terms_shallow text last) ts

  patterns_comes : Comes (Each (AtMost 130)) (patterns_of text last ts)
  patterns_comes = when_comes (Each (AtMost 130)) (eqb (kind_of ts) 16) _ _ tt (separated_comes (AtMost 130) (app text last) 21 (apps_shallow text last) ts)

  bar_comes : Comes ShallowClause (behind_bar text last ts)
  bar_comes =
      follow_comes (Each (AtMost 130)) ShallowClause (patterns_of text last ts) ts _ patterns_comes
      (λ ps us h. past_comes ShallowClause (sign_of last 16 us) us _
      (λ _ vs. follow_comes (AtMost 130) ShallowClause (app text last vs) vs _ (apps_shallow text last vs)
      (λ t ws g. record { patterns = h; body = g })))

module _ (text : List ℕ) (last : ℕ) where
  clauses_comes : (ts : Tokens) → Comes (Each ShallowClause) (repeat (clause_of text last) ts 0 0 [])
  clauses_comes ts = repeat_comes ShallowClause (clause_of text last) (behind_comes ShallowClause (behind_bar text last) (bar_comes text last) 22) ts 0 0 [] tt

  module _ (ts : Tokens) where
    sort_comes : Comes Shallow (sort_of last ts)
    sort_comes = past_comes Shallow (name last ts) ts _ (λ n us. tt)

    ctor_comes : Comes Shallow (ctor_of last ts)
    ctor_comes = past_comes Shallow (title_of last ts) ts _ (λ n us. past_comes Shallow (arrows_of last us) us _ (λ ss vs. tt))

    pred_comes : Comes Shallow (pred_of text last ts)
    pred_comes = past_comes Shallow (title_of last ts) ts _ (λ n us. past_comes Shallow (arrows_of last us) us _ (λ ss vs. when_comes Shallow (ends_in_prop text ss) _ _ tt tt))

    rule_comes : Comes Shallow (rule_of text last ts)
    rule_comes =
        past_comes Shallow (title_of last ts) ts _
        (λ n us. follow_comes (Each (AtMost 131)) Shallow (judgments_of text last us) us _ (judgments_comes text last us) (λ js vs h. h))

    def_comes : Comes Shallow (def_of text last ts)
    def_comes =
        past_comes Shallow (title_of last ts) ts _
        (λ n us. past_comes Shallow (arrows_of last us) us _
        (λ ss vs. follow_comes (Each ShallowClause) Shallow (repeat (clause_of text last) vs 0 0 []) vs _ (clauses_comes vs) (λ cs ws h. h)))

    theorem_comes : Comes Shallow (theorem_of text last ts)
    theorem_comes =
        past_comes Shallow (name last ts) ts _
        (λ n us. past_comes Shallow (repeat (binders_of last) us 0 0 []) us _
        (λ bs vs. past_comes Shallow (sign_of last 20 vs) vs _
        (λ _ ws. follow_comes (Each (AtMost 131)) Shallow (judgments_of text last ws) ws _ (judgments_comes text last ws)
        (λ js xs h. past_comes Shallow (tactic_of last xs) xs _ (λ t ys. h)))))

    eval_comes : Comes Shallow (eval_of text last ts)
    eval_comes = follow_comes (AtMost 131) Shallow (term text last ts) ts _ (terms_shallow text last ts) (λ t us h. h)

    check_comes : Comes Shallow (check_of text last ts)
    check_comes = follow_comes (AtMost 131) Shallow (term text last ts) ts _ (terms_shallow text last ts) (λ t us h. h)

    body_comes : (k : ℕ) (all : Tokens) → Comes Shallow (body_of text last k all ts)
    unfolding body_of
    body_comes k all =
        when_comes Shallow (eqb k 1) _ _ sort_comes
        (when_comes Shallow (eqb k 2) _ _ ctor_comes
        (when_comes Shallow (eqb k 3) _ _ pred_comes
        (when_comes Shallow (eqb k 4) _ _ rule_comes
        (when_comes Shallow (eqb k 5) _ _ def_comes
        (when_comes Shallow (eqb k 6) _ _ theorem_comes
        (when_comes Shallow (eqb k 7) _ _ tt
        (when_comes Shallow (eqb k 8) _ _ tt
        (when_comes Shallow (eqb k 9) _ _ tt
        (when_comes Shallow (eqb k 10) _ _ eval_comes
        (when_comes Shallow (eqb k 11) _ _ check_comes tt))))))))))

  declared_comes : (ts : Tokens) → Comes ShallowDeclared (declaration_of text last ts)
  unfolding declaration_of
  declared_comes [] = tt
  declared_comes (t ∷ ts) =
      let body : Parsed Declaration = body_of text last (get_or t 0 0) (t ∷ ts) ts in
      let next : Declaration → Tokens → Parsed Declared = λ d us. parsed (record { line = get_or t 3 0; declaration = d }) 0 in
      plus_comes ShallowDeclared 1 (follow body ts next) (follow_comes Shallow ShallowDeclared body ts next (body_comes ts (get_or t 0 0) (t ∷ ts)) (λ d us h. h))

-- Each declaration that is parsed is so, whatever the text and the tokens are.
pub parse_shallow : (text : List ℕ) (ts : Tokens) (ds : List Declared) (n : ℕ) → parse_of text ts ≡ parsed ds n → Each ShallowDeclared ds
unfolding parse_of
parse_shallow text ts ds n e = comes_parsed (Each ShallowDeclared) (repeat_comes ShallowDeclared (declaration_of text (last_line ts)) (declared_comes text (last_line ts)) ts 0 0 [] tt) e
