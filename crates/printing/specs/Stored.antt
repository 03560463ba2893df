-- The term that a stored reference prints: the bindings put in throughout. Where the bindings lead from it stands an unbound variable, or a node.
use Rattle.std.specs.Prelude.{ℕ, zero, suc, ◌-◌, ◌≤◌, ◌<◌, ◌≡◌, refl, List, length}
use Rattle.std.proofs.Common.{sym, ap, ◌∙◌}
use Rattle.terms.specs.Term.{var, app, cons, Term, Subst, sub}
use Rattle.terms.specs.Bindings.{res}
use Rattle.terms.specs.BindingLaws.{full_unbound, res_walk}
use Rattle.arena.specs.Cells.{Cells, cells, symbol_of, arity_of, args, denote, denote_node, denote_variable}
use Rattle.arena.specs.Rows.{Rows}
use Rattle.acyclicity.specs.Contract.{binding_of}
use Rattle.bindings.specs.Stored.{held, Form}
use Rattle.bindings.specs.Promises.{Walked}
use Rattle.printing.specs.Known.{SymbolsKnown}
use Rattle.printing.specs.declared.printed.PrintedTerms.{PrintedTerms}

-- The term that a reference denotes, the bindings put in.
abbrev pub term_at : ℕ → List ℕ → Rows → ℕ → ℕ → Term
term_at room words bindings bound reference = res (held room words bindings bound) (denote room (cells words) reference)

-- Words and bindings are in form, and the words' symbols are known.
pub record Printable (p : PrintedTerms) : Type 0 where
  pub form : Form p.terms.room p.terms.words.now p.bindings.rows.now p.terms.variables p.terms.used p.bindings.bound
  pub known : SymbolsKnown p.terms.words.now p.terms.used (length p.symbols.now)

abbrev pub term_in : PrintedTerms → ℕ → Term
term_in p = term_at p.terms.room p.terms.words.now p.bindings.rows.now p.bindings.bound

-- A substitution is put into arguments.
sub_args : (σ : Subst) (g : ℕ → Term) (w : Cells) (p n : ℕ) → sub σ (args g w p n) ≡ args (λ r. sub σ (g r)) w p n
sub_args σ g w p zero = refl
sub_args σ g w p (suc n) = ap (cons (sub σ (g (w p)))) (sub_args σ g w (suc p) n)

module _ {room : ℕ} {words : List ℕ} {bindings : Rows} {variables used bound r q : ℕ}
    (form : Form room words bindings variables used bound) (walked : Walked room words bindings variables used bound r q) where
  -- A reference prints what stands where the bindings lead from it:
  same_term : term_at room words bindings bound r ≡ res (held room words bindings bound) (denote room (cells words) q)
  same_term =
      sym (res_walk (held room words bindings bound) form.acyclic (denote room (cells words) r)) ∙ ap (res (held room words bindings bound)) walked.is

  -- an unbound variable,
  pub prints_variable : q < room → term_at room words bindings bound r ≡ var q
  prints_variable l =
      same_term ∙ ap (res (held room words bindings bound)) (denote_variable room (cells words) q l)
      ∙ full_unbound (held room words bindings bound) q (form.lookups q (walked.in_form.variable l) ∙ ap (binding_of room (cells words)) (walked.ends l))

  -- or a node and its arguments.
  pub prints_node : room ≤ q
      → term_at room words bindings bound r
      ≡ app (symbol_of (cells words (q - room))) (args (term_at room words bindings bound) (cells words) (suc (q - room)) (arity_of (cells words (q - room))))
  prints_node l =
      same_term ∙ ap (res (held room words bindings bound)) (denote_node room (cells words) variables used form.words q walked.in_form l)
      ∙ ap (app (symbol_of (cells words (q - room)))) (sub_args _ (denote room (cells words)) (cells words) (suc (q - room)) (arity_of (cells words (q - room))))
