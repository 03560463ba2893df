-- What holds of everything that a reader reads, from what holds of everything that its parts read.
use Rattle.std.specs.Prelude.{ℕ, zero, suc, ◌+◌, ◌-◌, ◌≡◌, Bool, true, false, List, [], ◌∷◌, ◌++◌, eqb, drop}
use Rattle.term_parser.specs.Parsing.{Tokens, kind_of, when, Parsed, parsed, absent, refused, plus, follow, required, behind, continued, repeat}
use Rattle.term_parser.specs.Lists.{separated}
use Rattle.refusals.specs.declared.Refusal.{Refusal}

-- P holds of each of a list.
abbrev pub Each : {A : Type 0} → (A → Type 0) → List A → Type 0
Each P [] = Unit {0}
Each P (a ∷ l) = P a × Each P l

-- P holds of the item, if one is read.
abbrev pub Comes : {A : Type 0} → (A → Type 0) → Parsed A → Type 0
Comes P (parsed a n) = P a
Comes P absent = Unit {0}
Comes P (refused r l) = Unit {0}

-- Nothing is asked.
abbrev pub Any : {A : Type 0} → A → Type 0
Any a = Unit {0}

-- Laws

pub each_any : {A : Type 0} (l : List A) → Each Any l
each_any [] = tt
each_any (a ∷ l) = (tt, each_any l)

pub any_comes : {A : Type 0} (o : Parsed A) → Comes Any o
any_comes (parsed a n) = tt
any_comes absent = tt
any_comes (refused r l) = tt

pub each_append : {A : Type 0} (P : A → Type 0) (l m : List A) → Each P l → Each P m → Each P (l ++ m)
each_append P [] m h g = g
each_append P (a ∷ l) m h g = (h.0, each_append P l m h.1 g)

pub comes_parsed : {A : Type 0} (P : A → Type 0) {o : Parsed A} {a : A} {n : ℕ} → Comes P o → o ≡ parsed a n → P a
comes_parsed P h e = rw e at h

pub plus_comes : {A : Type 0} (P : A → Type 0) (n : ℕ) (o : Parsed A) → Comes P o → Comes P (plus n o)
plus_comes P n (parsed a m) h = h
plus_comes P n absent h = tt
plus_comes P n (refused r l) h = tt

pub follow_comes : {A B : Type 0} (P : A → Type 0) (Q : B → Type 0) (o : Parsed A) (ts : Tokens) (next : A → Tokens → Parsed B) → Comes P o
    → ((a : A) (us : Tokens) → P a → Comes Q (next a us)) → Comes Q (follow o ts next)
follow_comes P Q (parsed a n) ts next h f = plus_comes Q n (next a (drop n ts)) (f a (drop n ts) h)
follow_comes P Q absent ts next h f = tt
follow_comes P Q (refused r l) ts next h f = tt

-- What is read on the way does not matter.
pub past_comes : {A B : Type 0} (Q : B → Type 0) (o : Parsed A) (ts : Tokens) (next : A → Tokens → Parsed B) → ((a : A) (us : Tokens) → Comes Q (next a us)) → Comes Q (follow o ts next)
past_comes Q o ts next f = follow_comes Any Q o ts next (any_comes o) (λ a us _. f a us)

pub required_comes : {A : Type 0} (P : A → Type 0) (r : Refusal) (l : ℕ) (o : Parsed A) → Comes P o → Comes P (required r l o)
required_comes P r l (parsed a n) h = h
required_comes P r l absent h = tt
required_comes P r l (refused q m) h = tt

pub when_comes : {A : Type 0} (P : A → Type 0) (b : Bool) (f g : Unit {0} → Parsed A) → Comes P (f tt) → Comes P (g tt) → Comes P (when b f g)
when_comes P true f g h k = h
when_comes P false f g h k = k

pub continued_comes : {A B : Type 0} (P : A → Type 0) (Q : B → Type 0) (o : Parsed A) (next : A → ℕ → Parsed B) (end : Parsed B) → Comes P o
    → ((a : A) (n : ℕ) → P a → Comes Q (next a n)) → Comes Q end → Comes Q (continued o next end)
continued_comes P Q (parsed a n) next end h f g = f a n h
continued_comes P Q absent next end h f g = g
continued_comes P Q (refused r l) next end h f g = tt

-- Where P holds of every item that is read from tokens of which T holds, it holds of each of a list of them.
pub repeat_each : {A : Type 0} (T : List ℕ → Type 0) (P : A → Type 0) (item : Tokens → Parsed A) → ((us : Tokens) → Each T us → Comes P (item us)) → (ts : Tokens) (k n : ℕ) (done : List A)
    → Each T ts → Each P done → Comes (Each P) (repeat item ts k n done)
unfolding repeat
repeat_each T P item f [] k n done h d = continued_comes P (Each P) (item []) (λ a m. parsed done n) (parsed done n) (f [] tt) (λ a m p. d) d
repeat_each T P item f (t ∷ ts) (suc k) n done h d = repeat_each T P item f ts k n done h.1 d
repeat_each T P item f (t ∷ ts) zero n done h d =
    continued_comes P (Each P) (item (t ∷ ts)) (λ a m. repeat item ts (m - 1) (n + m) (done ++ (a ∷ []))) (parsed done n) (f (t ∷ ts) h)
    (λ a m p. repeat_each T P item f ts (m - 1) (n + m) (done ++ (a ∷ [])) h.1 (each_append P done (a ∷ []) d (p, tt)))
    d

-- The same of any tokens.
module _ {A : Type 0} (P : A → Type 0) (item : Tokens → Parsed A) (comes : (ts : Tokens) → Comes P (item ts)) where
  pub repeat_comes : (ts : Tokens) (k n : ℕ) (done : List A) → Each P done → Comes (Each P) (repeat item ts k n done)
  repeat_comes ts k n done d = repeat_each Any P item (λ us _. comes us) ts k n done (each_any ts) d

  pub behind_comes : (kind : ℕ) (ts : Tokens) → Comes P (behind kind item ts)
  behind_comes kind ts = when_comes P (eqb (kind_of ts) kind) _ _ (plus_comes P 1 (item (drop 1 ts)) (comes (drop 1 ts))) tt

pub separated_comes : {A : Type 0} (P : A → Type 0) (item : Tokens → Parsed A) (kind : ℕ) → ((ts : Tokens) → Comes P (item ts)) → (ts : Tokens) → Comes (Each P) (separated kind item ts)
separated_comes P item kind comes ts =
    follow_comes P (Each P) (item ts) ts _ (comes ts) (λ a us p. repeat_comes P (behind kind item) (behind_comes P item comes kind) us 0 0 (a ∷ []) (p, tt))
