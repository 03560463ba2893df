-- Terms and substitutions (document 01, "Search"; the Rust's `Pat` and `T` without rigid names). A rule's patterns and the terms of a search are
-- of one type, so that an instance is a substitution. Variables and symbols are numbers; terms and lists of terms are one family, so that one
-- induction serves both.
use Rattle.std.specs.Prelude.{ℕ, suc, ◌+◌, ◌≤◌, ◌<◌, Bool, false, ◌||◌, cond}
use Rattle.terms.specs.Numbers.{same}

-- One term, or a list of terms.
pub data Kind : Type 0 where
  one many : Kind

-- A variable; a symbol applied to its arguments; no arguments; an argument in front of others.
pub data Syn : Kind → Type 0 where
  var : ℕ → Syn one
  app : ℕ → Syn many → Syn one
  nil : Syn many
  cons : Syn one → Syn many → Syn many

-- A term.
abbrev pub Term : Type 0
Term = Syn one

-- A list of terms.
abbrev pub Terms : Type 0
Terms = Syn many

-- How many terms stand in a list.
abbrev pub count : Terms → ℕ
count nil = 0
count (cons t ts) = suc (count ts)

-- One list of terms in front of another.
abbrev pub append : Terms → Terms → Terms
append nil us = us
append (cons t ts) us = cons t (append ts us)

-- A substitution puts a term for each variable.
abbrev pub Subst : Type 0
Subst = ℕ → Term

-- The terms put in.
abbrev pub sub : {s : Kind} → Subst → Syn s → Syn s
sub σ (var x) = σ x
sub σ (app f ts) = app f (sub σ ts)
sub σ nil = nil
sub σ (cons t ts) = cons (sub σ t) (sub σ ts)

-- First σ, then τ.
abbrev pub compose : Subst → Subst → Subst
compose σ τ x = sub τ (σ x)

-- σ, but u for x.
abbrev pub upd : ℕ → Term → Subst → Subst
upd x u σ y = cond (same y x) u (σ y)

-- Does the variable x occur?
unfoldable pub mem : {s : Kind} → ℕ → Syn s → Bool
mem x (var y) = same x y
mem x (app f ts) = mem x ts
mem x nil = false
mem x (cons t ts) = mem x t || mem x ts

-- How many constructors.
abbrev pub size : {s : Kind} → Syn s → ℕ
size (var x) = 1
size (app f ts) = suc (size ts)
size nil = 1
size (cons t ts) = suc (size t + size ts)

-- All variables are below c.
abbrev pub Below : {s : Kind} → ℕ → Syn s → Type 0
Below c (var x) = x < c
Below c (app f ts) = Below c ts
Below c nil = Unit {0}
Below c (cons t ts) = Below c t × Below c ts

-- All variables are c or above.
abbrev pub From : {s : Kind} → ℕ → Syn s → Type 0
From c (var x) = c ≤ x
From c (app f ts) = From c ts
From c nil = Unit {0}
From c (cons t ts) = From c t × From c ts
