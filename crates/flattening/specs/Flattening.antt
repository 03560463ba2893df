-- Calls inside a clause's right side become premises (document 01, "Rules"; the Rust's `Sig::flatten`): inner first and left to right, each with a
-- variable for its result.
use Rattle.std.specs.Prelude.{suc, Bool, true, false, cond, ◌&&◌, List, eqb, ltb, length}
use Rattle.term_parser.specs.Source.{Arity, one, many}
use Rattle.term_parser.specs.Standing.{Written, number, meta, called, applied, nil as none, cons as more, size}
use Rattle.names.specs.Names.{Name, result_name}
use Rattle.names.specs.Symbols.{Symbol, symbol_number, symbol_at}

-- One term more at the end.
abbrev pub snoc : Written many → Written one → Written many
snoc none t = more t none
snoc (more u us) t = more u (snoc us t)

abbrev pub is_function : List Symbol → Name → Bool
is_function symbols w = ltb (symbol_number symbols w) (length symbols) && eqb (symbol_at symbols (symbol_number symbols w)).function 1

-- A term without calls, and all premises so far.
pub data Flat (n : Arity) : Type 0 where
  flat : Written n → Written many → Flat n

-- A call becomes a premise, and its result variable takes its place. The number of calls so far is the number of premises.
abbrev pub resulted : Name → Written many → Written many → Flat one
resulted w us ps = flat (called (result_name (suc (size ps)))) (snoc ps (applied w (snoc us (called (result_name (suc (size ps)))))))

abbrev pub calling : Bool → Name → Flat many → Flat one
calling true w (flat us ps) = resulted w us ps
calling false w (flat us ps) = flat (applied w us) ps

abbrev pub paired : Written one → Flat many → Flat many
paired t (flat ts ps) = flat (more t ts) ps

abbrev pub and_flat : Flat one → (Written one → Written many → Flat many) → Flat many
and_flat (flat t ps) f = f t ps

-- `Sig::flatten`.
unfoldable pub flatten_of : {n : Arity} → List Symbol → Written n → Written many → Flat n
flatten_of symbols (number n) ps = flat (number n) ps
flatten_of symbols (meta w) ps = flat (meta w) ps
flatten_of symbols (called w) ps = cond (is_function symbols w) (resulted w none ps) (flat (called w) ps)
flatten_of symbols (applied w ts) ps = calling (is_function symbols w) w (flatten_of symbols ts ps)
flatten_of symbols none ps = flat none ps
flatten_of symbols (more t ts) ps = and_flat (flatten_of symbols t ps) (λ u qs. paired u (flatten_of symbols ts qs))
