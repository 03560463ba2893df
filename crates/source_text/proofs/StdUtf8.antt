-- The library's UTF-8 is that of RFC 3629: what encodes characters is a sequence of the nine forms, and each form encodes a character.
use mathlib.Core.Path.{◌≡◌, refl, sym, ap, subst, ◌∙◌}
use mathlib.Core.Bool.{true, false, ◌&&◌, and-false}
use mathlib.Core.List.{List, [], ◌∷◌, ◌++◌}
use Prim.Native.Nat.{ℕ, zero, suc, ◌+◌, ◌-◌, ◌*◌, ◌/◌, ◌≤◌, ◌<◌}
use native.Mathlib.Omega.{arith}
use lib.ListN.{length, take, drop, length-drop}
use lib.Dec.{leb, ltb}
use Rattle.std.proofs.Common.{◌⊎◌, inl, inr}
use Rattle.std.proofs.lemmas.Bool.{cases_lt, lt-leb}
use Rattle.std.proofs.lemmas.List.{take-append-drop}
use Rattle.std.proofs.lemmas.Str.{IsUtf8-append, IsUtf8-nil}
use Rattle.std.proofs.Common.{le-leb, leb-true, lt-ltb, ltb-true}
use Rattle.std.proofs.Math.Utf8.{scalar, scalars, scalar_cases, encode, encodes, next}
use Rattle.std.specs.Str.{IsUtf8}
use Rattle.std.specs.Prelude.{Result, Ok, Err}
use Rattle.std.specs.Result.{is_ok, MatchResult}
use Rattle.std.proofs.str.Laws.{Follows, one, two, three, four}
use Rattle.std.proofs.str.Valid.{of_one, of_two, of_three, of_four}
use Rattle.source_text.specs.Bytes.{within}
use Rattle.source_text.specs.Utf8.{lead_of, form_of, forms, asks, tails_of, character_length, utf8_after, is_utf8}
use Rattle.source_text.specs.declared.utf8.Lead.{Lead}
use Rattle.source_text.specs.ByteLaws.{by_bool, and_left, and_right}
use Rattle.source_text.proofs.Encodings.{same_lead, lead_range, utf8_skip}

is_within : (low high c : ℕ) → low ≤ c → c ≤ high → within low high c ≡ true
is_within low high c l h = rw (le-leb low c l, le-leb c high h) refl

within_low : (low high c : ℕ) → within low high c ≡ true → low ≤ c
within_low low high c e = leb-true low c (and_left (leb low c) (leb c high) e)

within_high : (low high c : ℕ) → within low high c ≡ true → c ≤ high
within_high low high c e = leb-true c high (and_right (leb low c) (leb c high) e)

-- A character whose first byte asks for tails that are there is passed over.
passed : (a : ℕ) (s : List ℕ) (l : Lead) → lead_of a ≡ l → 0 < l.length → tails_of (l.length - 1) l.low l.high s ≡ true → utf8_after (a ∷ s) 0 ≡ utf8_after s (l.length - 1)
unfolding character_length utf8_after
passed a s l e p t = simp (e, t, lt-ltb 0 l.length p)

one_tail : (low high b : ℕ) (s : List ℕ) → low ≤ b → b ≤ high → tails_of 1 low high (b ∷ s) ≡ true
unfolding tails_of
one_tail low high b s l h = rw (is_within low high b l h) refl

two_tails : (low high b d : ℕ) (s : List ℕ) → low ≤ b → b ≤ high → Follows d → tails_of 2 low high (b ∷ d ∷ s) ≡ true
unfolding tails_of
two_tails low high b d s l h f = rw (is_within low high b l h) (one_tail 0x80 0xBF d s f.0 (omega (arith, f.1)))

three_tails : (low high b d e : ℕ) (s : List ℕ) → low ≤ b → b ≤ high → Follows d → Follows e → tails_of 3 low high (b ∷ d ∷ e ∷ s) ≡ true
unfolding tails_of
three_tails low high b d e s l h f g = rw (is_within low high b l h) (two_tails 0x80 0xBF d e s f.0 (omega (arith, f.1)) g)

-- The bytes of a character are one of the forms.
character_passed : (c : ℕ) (s : List ℕ) → (c < 55296) ⊎ ((57344 ≤ c) × (c < 1114112)) → utf8_after (encode c ++ s) 0 ≡ utf8_after s 0
unfolding lead_of form_of forms same_lead utf8_after tails_of
character_passed c s v = by (cases_lt c 128) (cases_lt c 2048) (cases_lt c 65536)
  where
    follows : (x : ℕ) → Follows (next x)
    follows x = (omega arith, omega arith)

    top : (c < 55296) ⊎ ((57344 ≤ c) × (c < 1114112)) → c < 1114112
    top (inl h) = omega arith
    top (inr h) = h.1

    no_surrogate : (c < 55296) ⊎ ((57344 ≤ c) × (c < 1114112)) → c < 57344 → c < 55296
    no_surrogate (inl h) k = h
    no_surrogate (inr h) k = absurd (omega (arith, h.0))

    of_three_bytes : 2048 ≤ c → c < 65536 → (c < 4096) ⊎ (4096 ≤ c) → (c < 53248) ⊎ (53248 ≤ c) → (c < 57344) ⊎ (57344 ≤ c) → utf8_after ((224 + c / 4096) ∷ next (c / 64) ∷ next c ∷ s) 0 ≡ utf8_after s 0
    of_three_bytes l h (inl i) _ _ =
        passed (224 + c / 4096) (next (c / 64) ∷ next c ∷ s) (asks 3 0xA0 0xBF) (lead_range 224 1 (asks 3 0xA0 0xBF) tt (224 + c / 4096) (omega arith) (omega arith)) (omega arith)
        (two_tails 0xA0 0xBF (next (c / 64)) (next c) s (omega arith) (omega arith) (follows c))
    of_three_bytes l h (inr i) (inl j) _ =
        passed (224 + c / 4096) (next (c / 64) ∷ next c ∷ s) (asks 3 0x80 0xBF) (lead_range 225 12 (asks 3 0x80 0xBF) tt (224 + c / 4096) (omega arith) (omega arith)) (omega arith)
        (two_tails 0x80 0xBF (next (c / 64)) (next c) s (omega arith) (omega arith) (follows c))
    of_three_bytes l h (inr i) (inr j) (inl k) =
        let m : c < 55296 = no_surrogate v k in
        passed (224 + c / 4096) (next (c / 64) ∷ next c ∷ s) (asks 3 0x80 0x9F) (lead_range 237 1 (asks 3 0x80 0x9F) tt (224 + c / 4096) (omega arith) (omega arith)) (omega arith)
        (two_tails 0x80 0x9F (next (c / 64)) (next c) s (omega arith) (omega arith) (follows c))
    of_three_bytes l h (inr i) (inr j) (inr k) =
        passed (224 + c / 4096) (next (c / 64) ∷ next c ∷ s) (asks 3 0x80 0xBF) (lead_range 238 2 (asks 3 0x80 0xBF) tt (224 + c / 4096) (omega arith) (omega arith)) (omega arith)
        (two_tails 0x80 0xBF (next (c / 64)) (next c) s (omega arith) (omega arith) (follows c))

    of_four_bytes : 65536 ≤ c → c < 1114112 → (c < 262144) ⊎ (262144 ≤ c) → (c < 1048576) ⊎ (1048576 ≤ c) → utf8_after ((240 + c / 262144) ∷ next (c / 4096) ∷ next (c / 64) ∷ next c ∷ s) 0 ≡ utf8_after s 0
    of_four_bytes l h (inl i) _ =
        passed (240 + c / 262144) (next (c / 4096) ∷ next (c / 64) ∷ next c ∷ s) (asks 4 0x90 0xBF) (lead_range 240 1 (asks 4 0x90 0xBF) tt (240 + c / 262144) (omega arith) (omega arith)) (omega arith)
        (three_tails 0x90 0xBF (next (c / 4096)) (next (c / 64)) (next c) s (omega arith) (omega arith) (follows (c / 64)) (follows c))
    of_four_bytes l h (inr i) (inl j) =
        passed (240 + c / 262144) (next (c / 4096) ∷ next (c / 64) ∷ next c ∷ s) (asks 4 0x80 0xBF) (lead_range 241 3 (asks 4 0x80 0xBF) tt (240 + c / 262144) (omega arith) (omega arith)) (omega arith)
        (three_tails 0x80 0xBF (next (c / 4096)) (next (c / 64)) (next c) s (omega arith) (omega arith) (follows (c / 64)) (follows c))
    of_four_bytes l h (inr i) (inr j) =
        passed (240 + c / 262144) (next (c / 4096) ∷ next (c / 64) ∷ next c ∷ s) (asks 4 0x80 0x8F) (lead_range 244 1 (asks 4 0x80 0x8F) tt (240 + c / 262144) (omega arith) (omega arith)) (omega arith)
        (three_tails 0x80 0x8F (next (c / 4096)) (next (c / 64)) (next c) s (omega arith) (omega arith) (follows (c / 64)) (follows c))

    by : (c < 128) ⊎ (128 ≤ c) → (c < 2048) ⊎ (2048 ≤ c) → (c < 65536) ⊎ (65536 ≤ c) → utf8_after (encode c ++ s) 0 ≡ utf8_after s 0
    by (inl h) _ _ =
        rw (one c h) (passed c s (asks 1 0x80 0xBF) (lead_range 0 128 (asks 1 0x80 0xBF) tt c (omega arith) (omega arith)) (omega arith) refl)
    by (inr l) (inl h) _ =
        rw (two c l h)
        (passed (192 + c / 64) (next c ∷ s) (asks 2 0x80 0xBF) (lead_range 194 30 (asks 2 0x80 0xBF) tt (192 + c / 64) (omega arith) (omega arith)) (omega arith)
        (one_tail 0x80 0xBF (next c) s (omega arith) (omega arith)))
    by (inr _) (inr l) (inl h) = rw (three c l h) (of_three_bytes l h (cases_lt c 4096) (cases_lt c 53248) (cases_lt c 57344))
    by (inr _) (inr _) (inr l) = rw (four c l) (of_four_bytes l (top v) (cases_lt c 262144) (cases_lt c 1048576))

pub characters_passed : (cs : List ℕ) → scalars cs ≡ true → utf8_after (encodes cs) 0 ≡ true
unfolding utf8_after
characters_passed [] e = refl
characters_passed (c ∷ cs) e =
    character_passed c (encodes cs) (scalar_cases c (and_left (scalar c) (scalars cs) e)) ∙ characters_passed cs (and_right (scalar c) (scalars cs) e)

pub from_library : (bs : List ℕ) → IsUtf8 bs → is_utf8 bs ≡ true
unfolding is_utf8
from_library bs u = subst (λ l. utf8_after l 0 ≡ true) u.1.1 (characters_passed u.0 u.1.0)

-- The forms encode characters.
three_large : (a b d : ℕ) → 224 ≤ a → (a < 225 → 0xA0 ≤ b) → (a < 225) ⊎ (225 ≤ a) → 2048 ≤ (a - 224) * 4096 + (b - 128) * 64 + (d - 128)
three_large a b d p f (inl k) = let m : 0xA0 ≤ b = f k in omega arith
three_large a b d p f (inr k) = omega arith

three_apart : (a b d : ℕ) → 224 ≤ a → b ≤ 0xBF → d ≤ 0xBF → (237 ≤ a → a < 238 → b ≤ 0x9F) → (a < 237) ⊎ (237 ≤ a) → (a < 238) ⊎ (238 ≤ a)
    → ((a - 224) * 4096 + (b - 128) * 64 + (d - 128) < 55296) ⊎ (57344 ≤ (a - 224) * 4096 + (b - 128) * 64 + (d - 128))
three_apart a b d p q r g (inl k) _ = inl (omega arith)
three_apart a b d p q r g (inr k) (inl m) = let n : b ≤ 0x9F = g k m in inl (omega arith)
three_apart a b d p q r g (inr k) (inr m) = inr (omega arith)

three_bytes : (a low high : ℕ) (s : List ℕ) → 224 ≤ a → a < 240 → 0x80 ≤ low → high ≤ 0xBF → (a < 225 → 0xA0 ≤ low) → (237 ≤ a → a < 238 → high ≤ 0x9F) → tails_of 2 low high s ≡ true → IsUtf8 (take 3 (a ∷ s))
unfolding tails_of
three_bytes a low high [] p q l h f g e = absurd (let z : ◌≡◌ {A = ℕ} 0 1 = cc in omega arith)
three_bytes a low high (b ∷ []) p q l h f g e = absurd (let y : false ≡ true = and_right (within low high b) false e in let z : ◌≡◌ {A = ℕ} 0 1 = cc in omega arith)
three_bytes a low high (b ∷ (d ∷ s)) p q l h f g e =
    let wb : within low high b ≡ true = and_left (within low high b) (within 0x80 0xBF d && true) e in
    let wd : within 0x80 0xBF d ≡ true = and_left (within 0x80 0xBF d) true (and_right (within low high b) (within 0x80 0xBF d && true) e) in
    let b1 : low ≤ b = within_low low high b wb in
    let b2 : b ≤ high = within_high low high b wb in
    let d1 : 0x80 ≤ d = within_low 0x80 0xBF d wd in
    let d2 : d ≤ 0xBF = within_high 0x80 0xBF d wd in
    of_three (a ∷ b ∷ d ∷ s) 0 (omega arith) (p, q) (omega arith, omega arith) (omega arith, omega arith)
    (three_large a b d p (λ k. let m : 0xA0 ≤ low = f k in omega arith) (cases_lt a 225))
    (three_apart a b d p (omega arith) d2 (λ k m. let n : high ≤ 0x9F = g k m in omega arith) (cases_lt a 237) (cases_lt a 238))

four_large : (a b : ℕ) → 240 ≤ a → a < 245 → 0x80 ≤ b → b ≤ 0xBF → (a < 241 → 0x90 ≤ b) → (244 ≤ a → b ≤ 0x8F) → (a < 241) ⊎ (241 ≤ a) → (a < 244) ⊎ (244 ≤ a) → (16 ≤ (a - 240) * 64 + (b - 128)) × ((a - 240) * 64 + (b - 128) < 272)
four_large a b p q l h f g (inl k) _ = let m : 0x90 ≤ b = f k in (omega arith, omega arith)
four_large a b p q l h f g (inr k) (inl m) = (omega arith, omega arith)
four_large a b p q l h f g (inr k) (inr m) = let n : b ≤ 0x8F = g m in (omega arith, omega arith)

four_bytes : (a low high : ℕ) (s : List ℕ) → 240 ≤ a → a < 245 → 0x80 ≤ low → high ≤ 0xBF → (a < 241 → 0x90 ≤ low) → (244 ≤ a → high ≤ 0x8F) → tails_of 3 low high s ≡ true → IsUtf8 (take 4 (a ∷ s))
unfolding tails_of
four_bytes a low high [] p q l h f g e = absurd (let z : ◌≡◌ {A = ℕ} 0 1 = cc in omega arith)
four_bytes a low high (b ∷ []) p q l h f g e = absurd (let y : false ≡ true = and_right (within low high b) false e in let z : ◌≡◌ {A = ℕ} 0 1 = cc in omega arith)
four_bytes a low high (b ∷ (d ∷ [])) p q l h f g e = absurd (let y : false ≡ true = and_right (within 0x80 0xBF d) false (and_right (within low high b) (within 0x80 0xBF d && false) e) in let z : ◌≡◌ {A = ℕ} 0 1 = cc in omega arith)
four_bytes a low high (b ∷ (d ∷ (x ∷ s))) p q l h f g e =
    let wb : within low high b ≡ true = and_left (within low high b) (within 0x80 0xBF d && (within 0x80 0xBF x && true)) e in
    let r : (within 0x80 0xBF d && (within 0x80 0xBF x && true)) ≡ true = and_right (within low high b) (within 0x80 0xBF d && (within 0x80 0xBF x && true)) e in
    let wd : within 0x80 0xBF d ≡ true = and_left (within 0x80 0xBF d) (within 0x80 0xBF x && true) r in
    let wx : within 0x80 0xBF x ≡ true = and_left (within 0x80 0xBF x) true (and_right (within 0x80 0xBF d) (within 0x80 0xBF x && true) r) in
    let b1 : low ≤ b = within_low low high b wb in
    let b2 : b ≤ high = within_high low high b wb in
    let d1 : 0x80 ≤ d = within_low 0x80 0xBF d wd in
    let d2 : d ≤ 0xBF = within_high 0x80 0xBF d wd in
    let x1 : 0x80 ≤ x = within_low 0x80 0xBF x wx in
    let x2 : x ≤ 0xBF = within_high 0x80 0xBF x wx in
    of_four (a ∷ b ∷ d ∷ x ∷ s) 0 (omega arith) p (omega arith, omega arith) (omega arith, omega arith) (omega arith, omega arith)
    (four_large a b p q (omega arith) (omega arith) (λ k. let m : 0x90 ≤ low = f k in omega arith) (λ k. let n : high ≤ 0x8F = g k in omega arith) (cases_lt a 241) (cases_lt a 244))

two_bytes : (a : ℕ) (s : List ℕ) → 194 ≤ a → a < 224 → tails_of 1 0x80 0xBF s ≡ true → IsUtf8 (take 2 (a ∷ s))
unfolding tails_of
two_bytes a [] p q e = absurd (let z : ◌≡◌ {A = ℕ} 0 1 = cc in omega arith)
two_bytes a (b ∷ s) p q e =
    let wb : within 0x80 0xBF b ≡ true = and_left (within 0x80 0xBF b) true e in
    let b1 : 0x80 ≤ b = within_low 0x80 0xBF b wb in
    let b2 : b ≤ 0xBF = within_high 0x80 0xBF b wb in
    of_two (a ∷ b ∷ s) 0 (omega arith) (p, q) (omega arith, omega arith)

lead_past : (a : ℕ) → 245 ≤ a → lead_of a ≡ asks 0 0x80 0xBF
unfolding lead_of forms form_of
lead_past a h =
    simp
    (lt-leb a 0x7F (omega arith), lt-leb a 0xDF (omega arith), lt-leb a 0xE0 (omega arith), lt-leb a 0xEC (omega arith), lt-leb a 0xED (omega arith), lt-leb a 0xEF (omega arith), lt-leb a 0xF0 (omega arith), lt-leb a 0xF3 (omega arith), lt-leb a 0xF4 (omega arith), and-false)

-- What a form's character is, by its first byte.
abbrev Encodes : ℕ → List ℕ → Lead → Type 0
Encodes a s l = 0 < l.length → tails_of (l.length - 1) l.low l.high s ≡ true → IsUtf8 (take l.length (a ∷ s))

by_first : (a : ℕ) (s : List ℕ) → (a < 128) ⊎ (128 ≤ a) → (a < 194) ⊎ (194 ≤ a) → (a < 224) ⊎ (224 ≤ a) → (a < 225) ⊎ (225 ≤ a) → (a < 237) ⊎ (237 ≤ a) → (a < 238) ⊎ (238 ≤ a) → (a < 240) ⊎ (240 ≤ a)
    → (a < 241) ⊎ (241 ≤ a) → (a < 244) ⊎ (244 ≤ a) → (a < 245) ⊎ (245 ≤ a) → Encodes a s (lead_of a)
unfolding lead_of form_of forms same_lead
by_first a s (inl i) _ _ _ _ _ _ _ _ _ =
    rw (lead_range 0 128 (asks 1 0x80 0xBF) tt a (omega arith) (omega arith)) (λ p e. of_one (a ∷ s) 0 (omega arith) i)
by_first a s (inr i) (inl j) _ _ _ _ _ _ _ _ =
    rw (lead_range 128 66 (asks 0 0x80 0xBF) tt a i (omega arith)) (λ p e. absurd (omega arith))
by_first a s (inr _) (inr i) (inl j) _ _ _ _ _ _ _ =
    rw (lead_range 194 30 (asks 2 0x80 0xBF) tt a i (omega arith)) (λ p e. two_bytes a s i j e)
by_first a s (inr _) (inr _) (inr i) (inl j) _ _ _ _ _ _ =
    rw (lead_range 224 1 (asks 3 0xA0 0xBF) tt a i (omega arith)) (λ p e. three_bytes a 0xA0 0xBF s i (omega arith) (omega arith) (omega arith) (λ k. omega arith) (λ k m. absurd (omega arith)) e)
by_first a s (inr _) (inr _) (inr _) (inr i) (inl j) _ _ _ _ _ =
    rw (lead_range 225 12 (asks 3 0x80 0xBF) tt a i (omega arith)) (λ p e. three_bytes a 0x80 0xBF s (omega arith) (omega arith) (omega arith) (omega arith) (λ k. absurd (omega arith)) (λ k m. absurd (omega arith)) e)
by_first a s (inr _) (inr _) (inr _) (inr _) (inr i) (inl j) _ _ _ _ =
    rw (lead_range 237 1 (asks 3 0x80 0x9F) tt a i (omega arith)) (λ p e. three_bytes a 0x80 0x9F s (omega arith) (omega arith) (omega arith) (omega arith) (λ k. absurd (omega arith)) (λ k m. omega arith) e)
by_first a s (inr _) (inr _) (inr _) (inr _) (inr _) (inr i) (inl j) _ _ _ =
    rw (lead_range 238 2 (asks 3 0x80 0xBF) tt a i (omega arith)) (λ p e. three_bytes a 0x80 0xBF s (omega arith) j (omega arith) (omega arith) (λ k. absurd (omega arith)) (λ k m. absurd (omega arith)) e)
by_first a s (inr _) (inr _) (inr _) (inr _) (inr _) (inr _) (inr i) (inl j) _ _ =
    rw (lead_range 240 1 (asks 4 0x90 0xBF) tt a i (omega arith)) (λ p e. four_bytes a 0x90 0xBF s i (omega arith) (omega arith) (omega arith) (λ k. omega arith) (λ k. absurd (omega arith)) e)
by_first a s (inr _) (inr _) (inr _) (inr _) (inr _) (inr _) (inr _) (inr i) (inl j) _ =
    rw (lead_range 241 3 (asks 4 0x80 0xBF) tt a i (omega arith)) (λ p e. four_bytes a 0x80 0xBF s (omega arith) (omega arith) (omega arith) (omega arith) (λ k. absurd (omega arith)) (λ k. absurd (omega arith)) e)
by_first a s (inr _) (inr _) (inr _) (inr _) (inr _) (inr _) (inr _) (inr _) (inr i) (inl j) =
    rw (lead_range 244 1 (asks 4 0x80 0x8F) tt a i (omega arith)) (λ p e. four_bytes a 0x80 0x8F s (omega arith) j (omega arith) (omega arith) (λ k. absurd (omega arith)) (λ k. omega arith) e)
by_first a s (inr _) (inr _) (inr _) (inr _) (inr _) (inr _) (inr _) (inr _) (inr _) (inr i) =
    rw (lead_past a i) (λ p e. absurd (omega arith))

form_encodes : (a : ℕ) (s : List ℕ) → Encodes a s (lead_of a)
form_encodes a s =
    by_first a s (cases_lt a 128) (cases_lt a 194) (cases_lt a 224) (cases_lt a 225) (cases_lt a 237) (cases_lt a 238) (cases_lt a 240) (cases_lt a 241) (cases_lt a 244) (cases_lt a 245)

character_encodes : (a : ℕ) (s : List ℕ) → 0 < character_length (a ∷ s) → IsUtf8 (take (character_length (a ∷ s)) (a ∷ s))
unfolding character_length
character_encodes a s p =
    by_bool (tails_of ((lead_of a).length - 1) (lead_of a).low (lead_of a).high s)
    (λ t. let q : 0 < (lead_of a).length = rw t at p in rw t (form_encodes a s q t))
    (λ f. absurd (let q : 0 < 0 = rw f at p in omega arith))

forms_encode : (n : ℕ) (bs : List ℕ) → length bs ≤ n → utf8_after bs 0 ≡ true → IsUtf8 bs
unfolding utf8_after
forms_encode zero [] h e = IsUtf8-nil
forms_encode zero (a ∷ s) h e = absurd (omega arith)
forms_encode (suc n) [] h e = IsUtf8-nil
forms_encode (suc n) (a ∷ s) h e =
    let m = character_length (a ∷ s) in
    let p : 0 < m = ltb-true 0 m (and_left (ltb 0 m) (utf8_after s (m - 1)) e) in
    let q : utf8_after (drop (m - 1) s) 0 ≡ true = sym (utf8_skip s (m - 1)) ∙ and_right (ltb 0 m) (utf8_after s (m - 1)) e in
    let k : suc (m - 1) ≡ m = omega arith in
    let d : drop (m - 1) s ≡ drop m (a ∷ s) = ap (λ j. drop j (a ∷ s)) k in
    let rest : IsUtf8 (drop (m - 1) s) = forms_encode n (drop (m - 1) s) (omega (arith, length-drop (m - 1) s)) q in
    subst IsUtf8 (take-append-drop m (a ∷ s)) (IsUtf8-append (take m (a ∷ s)) (drop m (a ∷ s)) (character_encodes a s p) (subst IsUtf8 d rest))

-- The library's answer is that of the definition.
pub same_answer : {A E : Type 0} (r : Result A E) (P : A → Type 0) (Q : E → Type 0) (bs : List ℕ) → MatchResult r (λ x. P x × IsUtf8 bs) (λ e. (IsUtf8 bs → ⊥) × Q e) → is_ok r ≡ is_utf8 bs
unfolding is_utf8
same_answer (Ok x) P Q bs h = sym (from_library bs h.1)
same_answer (Err e) P Q bs h = by_bool (is_utf8 bs) (λ t. absurd (h.0 (forms_encode (length bs) bs (omega arith) t))) (λ f. sym f)
