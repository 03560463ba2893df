-- Lists of terms one behind another, and a term that waits in front of a list: what a walk with a stack in the place of recursion has left to do.
use Rattle.std.specs.Prelude.{ℕ, ◌≡◌, refl, Bool, true, false}
use Rattle.std.proofs.Common.{ap}
use Rattle.terms.specs.Term.{Term, Terms, nil, cons, append}

-- A term that waits, in front of the others.
abbrev pub pending : Bool → Term → Terms → Terms
pending true t ts = cons t ts
pending false t ts = ts

-- One where something waits.
abbrev pub bit : Bool → ℕ
bit true = 1
bit false = 0

pub append_nothing : (ts : Terms) → append ts nil ≡ ts
append_nothing nil = refl
append_nothing (cons t ts) = ap (cons t) (append_nothing ts)

pub append_more : (ts : Terms) (t : Term) (us : Terms) → append ts (cons t us) ≡ append (append ts (cons t nil)) us
append_more nil t us = refl
append_more (cons u ts) t us = ap (cons u) (append_more ts t us)
