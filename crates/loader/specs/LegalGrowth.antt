-- Laws of a signature that grows: what is legal stays legal when sorts, symbols or rules are added.
use Rattle.std.specs.Prelude.{ℕ, ◌+◌, ◌≤◌, ◌≡◌, List, ◌++◌, length}
use Rattle.std.proofs.Common.{arith, ap, ◌∙◌, length-append}
use Rattle.std.proofs.lemmas.List.{length-map}
use Rattle.std.proofs.Math.ListN.{get_or-append}
use Rattle.terms.specs.Term.{Kind, Syn, var, app, nil, cons}
use Rattle.names.specs.Symbols.{Symbol, no_symbol}
use Rattle.resolution.specs.Rules.{Rule}
use Rattle.rules.specs.LayingLaws.{Fits}
use Rattle.rules.specs.PatternLaws.{arities_of, Judgment}
use Rattle.loader.specs.Legal.{SymbolLegal, RuleLegal}
use Rattle.loader.specs.Growth.{arities_append}

-- With more sorts and rules a symbol is still legal,
pub symbol_more : {m n k l : ℕ} {f : Symbol} → m ≤ n → k ≤ l → SymbolLegal m k f → SymbolLegal n l f
symbol_more a b h =
    record {
      output = let g = h.output in omega arith;
      few = h.few;
      inputs = λ j q. let g = h.inputs j q in (g.0, omega arith);
      mark = h.mark;
      predicate = h.predicate;
      result = h.result;
      clauses = let g = h.clauses in omega arith;
      none = h.none;
      others = h.others;
    }

-- and with more sorts a rule.
pub rule_more : {symbols : List Symbol} {m n : ℕ} {R : Rule} → m ≤ n → RuleLegal symbols m R → RuleLegal symbols n R
rule_more a h =
    record {
      premises_fit = h.premises_fit;
      conclusion_fits = h.conclusion_fits;
      premises_judge = h.premises_judge;
      conclusion_judges = h.conclusion_judges;
      few = h.few;
      variables = h.variables;
      sorted = λ i q. let g = h.sorted i q in (g.0, omega arith);
      order = h.order;
      small = h.small;
    }

-- With more symbols each symbol still has its arguments, and judgments are judgments.
pub fits_more : (arities others : List ℕ) {k : Kind} (t : Syn k) → Fits arities t → Fits (arities ++ others) t
fits_more arities others (var x) h = tt
fits_more arities others (app f ts) h =
    let n : length (arities ++ others) ≡ length arities + length others = length-append arities others in
    let l = h.0.known in
    (record { known = omega arith; own = get_or-append arities others 0 f l ∙ h.0.own; few = h.0.few }, fits_more arities others ts h.1)
fits_more arities others nil h = tt
fits_more arities others (cons t ts) h = (fits_more arities others t h.0, fits_more arities others ts h.1)

pub judgment_more : (symbols others : List Symbol) {k : Kind} (t : Syn k) → Fits (arities_of symbols) t → Judgment symbols t → Judgment (symbols ++ others) t
judgment_more symbols others (var x) f h = tt
judgment_more symbols others (app g ts) f h =
    let n : length (arities_of symbols) ≡ length symbols = length-map symbols (λ (f : Symbol). length f.inputs) in
    let l = f.0.known in
    ap (λ (f : Symbol). f.output) (get_or-append symbols others no_symbol g (omega arith)) ∙ h
judgment_more symbols others nil f h = tt
judgment_more symbols others (cons t ts) f h = (judgment_more symbols others t f.0 h.0, judgment_more symbols others ts f.1 h.1)

-- So with more symbols a rule is still legal.
pub rule_symbols : (symbols others : List Symbol) {n : ℕ} {R : Rule} → RuleLegal symbols n R → RuleLegal (symbols ++ others) n R
rule_symbols symbols others {R} h =
    let a : arities_of (symbols ++ others) ≡ arities_of symbols ++ arities_of others = arities_append symbols others in
    let p : Fits (arities_of (symbols ++ others)) R.premises = rw a (fits_more (arities_of symbols) (arities_of others) R.premises h.premises_fit) in
    let c : Fits (arities_of (symbols ++ others)) R.conclusion = rw a (fits_more (arities_of symbols) (arities_of others) R.conclusion h.conclusion_fits) in
    record {
      premises_fit = p;
      conclusion_fits = c;
      premises_judge = judgment_more symbols others R.premises h.premises_fit h.premises_judge;
      conclusion_judges = judgment_more symbols others R.conclusion h.conclusion_fits h.conclusion_judges;
      few = h.few;
      variables = h.variables;
      sorted = h.sorted;
      order = h.order;
      small = h.small;
    }
