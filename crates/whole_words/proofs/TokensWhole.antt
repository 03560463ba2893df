-- The tokens of every text that is read are its words and signs, whole and in order; no word is left out.
use Prim.Native.Nat.{ℕ, zero, suc, ◌+◌, ◌-◌, ◌≤◌, ◌<◌}
use native.Mathlib.Omega.{arith}
use Rattle.std.specs.Prelude.{◌≡◌, refl, ltb, get_or, take, drop}
use Rattle.std.proofs.Math.Path.{sym, ap}
use Rattle.std.proofs.Common.{◌∙◌, length-append, get_or-take, drop-drop, length-take-le, get_or-append-add, le-leb}
use Rattle.std.proofs.Math.Bool.{true}
use mathlib.Core.List.{List, [], ◌∷◌, ◌++◌}
use Rattle.std.proofs.Math.ListN.{length, length-drop, get_or-append}
use Rattle.std.proofs.lemmas.List.{take-append-le}
use Rattle.terms.specs.Numbers.{by_bool, by_less, true_false}
use Rattle.source_text.specs.Lines.{lines, line_of, code_of}
use Rattle.words.specs.Tokens.{Reading, item_of, and_then, read_item, item_length, read_after, read_lines, outside_line}
use Rattle.words.specs.Tokens.Reading.{tokens, refused}
use Rattle.source_text.specs.Utf8.{is_utf8}
use Rattle.source_text.specs.Parts.{part_of}
use Rattle.words.specs.Lexer.{in_domain, lex_of}
use Rattle.words.specs.Items.{Item}
use Rattle.words.specs.Items.Item.{Blank, Token, Refused}
use Rattle.term_parser.specs.ReaderLaws.{Each, each_append}
use Rattle.whole_words.specs.Words.{is_word_byte, TokenWhole, InToken, Accounted, commented, taken, TokensWhole}
use Rattle.whole_words.specs.WordLaws.{Fit, Good, item_good}
use Rattle.whole_words.specs.LineLaws.{Seam, Plain, Begins, Outside, byte_at, byte_in, lines_first, lines_none, line_rest, comment, line_fits, code_fits, end_plain, line_begins, line_seam, code_split, comment_plain, comment_place, code_outside}

-- One token, where s stands at the place p of a text, and post behind it
module _ (text s post : List ℕ) (p : ℕ) (h : drop p text ≡ s ++ post) where
  -- The m bytes from p on are the first m of s.
  module _ (m : ℕ) (some : 1 ≤ m) (fits : m ≤ length s) where
    part_inside : p + m ≤ length text
    part_inside =
        let a : length (drop p text) ≡ length text - p = length-drop p text in
        let b : length (drop p text) ≡ length (s ++ post) = ap length h in
        let c : length (s ++ post) ≡ length s + length post = length-append s post in
        omega arith

    part_take : part_of text p m ≡ take m s
    part_take = rw (le-leb (p + m) (length text) part_inside, h) (take-append-le m s post fits)

  token_whole : (kind m n : ℕ) → Seam text p → Outside text p (p + length s) → Fit s post kind m → TokenWhole text (kind ∷ p ∷ m ∷ n ∷ [])
  token_whole kind m n seam out f =
      let some = f.some in
      let fits = f.inside in
      let e : part_of text p m ≡ take m s = part_take m some fits in
      let l : length (take m s) ≡ m = length-take-le m s fits in
      let z : p + 0 ≡ p = omega arith in
      record {
        some = some;
        inside = part_inside m some fits;
        outside = λ i a b. out i a (omega arith);
        word = λ k. record {
          some = some;
          short = f.short k;
          inside = part_inside m some fits;
          inner = λ i a b. (
              let q : i ≡ p + (i - p) = omega arith in
              rw (q, byte_in text s post p h (i - p) (omega arith)) (f.inner k (i - p) (omega arith))
              );
          before = λ i q. by_bool (is_word_byte (get_or text i 0))
              (λ t. true_false (ap (λ j. is_word_byte (get_or text j 0)) (sym z) ∙ ap is_word_byte (byte_in text s post p h 0 (omega arith)) ∙ f.inner k 0 (omega arith)) (seam i q t))
              (λ t. t);
          behind = λ _. ap is_word_byte (byte_at text (s ++ post) p m h) ∙ f.stops k;
          outside = λ i a b. out i a (omega arith);
          long = rw e l;
          bytes = λ i b. rw e (get_or-take m s i 0 b ∙ sym (byte_in text s post p h i (omega arith)));
        };
        reads = rw e f.reads;
      }

  -- Behind it the next may begin.
  token_seam : (kind m : ℕ) → Fit s post kind m → Seam text (suc p + (m - 1))
  token_seam kind m f i q t =
      let some = f.some in
      let fits = f.inside in
      let z : suc p + (m - 1) ≡ p + m = omega arith in
      by_less kind 15
      (λ k _. rw (z, byte_at text (s ++ post) p m h) (f.stops (omega arith)))
      (λ k _. true_false t (let y : i ≡ p + (m - 1) = omega arith in rw (y, byte_in text s post p h (m - 1) (omega arith)) (f.outer k (m - 1) (omega arith))))

-- Tokens in order
-- The tokens lie from `low` on and before `high`, one behind the other.
abbrev Ordered : ℕ → ℕ → List (List ℕ) → Type 0
Ordered low high [] = low ≤ high
Ordered low high (t ∷ ts) = (low ≤ get_or t 1 0) × Ordered (get_or t 1 0 + get_or t 2 0) high ts

ordered_lower : (low mid high : ℕ) (ts : List (List ℕ)) → low ≤ mid → Ordered mid high ts → Ordered low high ts
ordered_lower low mid high [] l h = omega arith
ordered_lower low mid high (t ∷ ts) l h = (let k = h.0 in omega arith, h.1)

ordered_append : (low mid high : ℕ) (ts us : List (List ℕ)) → Ordered low mid ts → Ordered mid high us → Ordered low high (ts ++ us)
ordered_append low mid high [] us h g = ordered_lower low mid high us h g
ordered_append low mid high (t ∷ ts) us h g = (h.0, ordered_append (get_or t 1 0 + get_or t 2 0) mid high ts us h.1 g)

ordered_from : (low high : ℕ) (ts : List (List ℕ)) → Ordered low high ts → (j : ℕ) → j < length ts → low ≤ get_or (get_or ts j []) 1 0
ordered_from low high [] h j l = absurd (omega arith)
ordered_from low high (t ∷ ts) h zero l = h.0
ordered_from low high (t ∷ ts) h (suc j) l =
    let k = ordered_from (get_or t 1 0 + get_or t 2 0) high ts h.1 j (omega arith) in let m = h.0 in omega arith

ordered_apart : (low high : ℕ) (ts : List (List ℕ)) → Ordered low high ts → (i j : ℕ) → i < j → j < length ts
    → get_or (get_or ts i []) 1 0 + get_or (get_or ts i []) 2 0 ≤ get_or (get_or ts j []) 1 0
ordered_apart low high [] h i j l m = absurd (omega arith)
ordered_apart low high (t ∷ ts) h i zero l m = absurd (omega arith)
ordered_apart low high (t ∷ ts) h zero (suc j) l m = ordered_from (get_or t 1 0 + get_or t 2 0) high ts h.1 j (omega arith)
ordered_apart low high (t ∷ ts) h (suc i) (suc j) l m =
    ordered_apart (get_or t 1 0 + get_or t 2 0) high ts h.1 i j (omega arith) (omega arith)

-- Tokens in front and behind
taken_left : (ts us : List (List ℕ)) (i : ℕ) → InToken ts i → InToken (ts ++ us) i
taken_left ts us i h =
    let e : get_or (ts ++ us) h.number [] ≡ get_or ts h.number [] = get_or-append ts us [] h.number h.there in
    let l = length-append ts us in
    let t = h.there in
    record { number = h.number; there = omega arith; from = rw e h.from; to = rw e h.to; kinded = rw e h.kinded }

taken_right : (ts us : List (List ℕ)) (i : ℕ) → InToken us i → InToken (ts ++ us) i
taken_right ts us i h =
    let e : get_or (ts ++ us) (length ts + h.number) [] ≡ get_or us h.number [] = get_or-append-add ts us h.number [] in
    let l = length-append ts us in
    let t = h.there in
    record { number = length ts + h.number; there = omega arith; from = rw e h.from; to = rw e h.to; kinded = rw e h.kinded }

-- Readings
module _ (text : List ℕ) where
  left : (ts us : List (List ℕ)) (i : ℕ) → Accounted text ts i → Accounted text (ts ++ us) i
  left ts us i (commented h) = commented h
  left ts us i (taken h) = taken (taken_left ts us i h)

  right : (ts us : List (List ℕ)) (i : ℕ) → Accounted text us i → Accounted text (ts ++ us) i
  right ts us i (commented h) = commented h
  right ts us i (taken h) = taken (taken_right ts us i h)

  -- The tokens of the part from `low` on and before `high`.
  record PartRead (low high : ℕ) (ts : List (List ℕ)) : Type 0 where
    pub whole : Each (TokenWhole text) ts
    pub ordered : Ordered low high ts
    pub covers : (i : ℕ) → low ≤ i → i < high → i < length text → is_word_byte (get_or text i 0) ≡ true → Accounted text ts i

  abbrev Reads : ℕ → ℕ → Reading → Type 0
  Reads low high (tokens ts) = PartRead low high ts
  Reads low high (refused r n) = Unit {0}

  then_reads : (low mid high : ℕ) (a b : Reading) → Reads low mid a → Reads mid high b → Reads low high (and_then a b)
  unfolding and_then
  then_reads low mid high (refused r n) b h g = tt
  then_reads low mid high (tokens ts) (refused r n) h g = tt
  then_reads low mid high (tokens ts) (tokens us) h g =
      record {
        whole = each_append (TokenWhole text) ts us h.whole g.whole;
        ordered = ordered_append low mid high ts us h.ordered g.ordered;
        covers = λ i l m k w. by_less i mid (λ q _. left ts us i (h.covers i l q k w)) (λ q _. right ts us i (g.covers i q m k w));
      }

  module _ (post : List ℕ) (plain : Plain post) where
    behind_one : (c : ℕ) (s : List ℕ) (p : ℕ) → drop p text ≡ (c ∷ s) ++ post → drop (suc p) text ≡ s ++ post
    behind_one c s p h =
        let z : suc p ≡ p + 1 = omega arith in
        ap (λ j. drop j text) z ∙ sym (drop-drop 1 p text) ∙ ap (λ l. drop 1 l) h

    -- One item, and what is read behind it.
    item_reads : (c : ℕ) (s : List ℕ) (p n : ℕ) → drop p text ≡ (c ∷ s) ++ post → Seam text p → Outside text p (suc p + length s)
        → (o : Item) → Good (c ∷ s) post o
        → ((k : ℕ) → k ≤ length s → Seam text (suc p + k) → Reads (suc p + k) (suc p + length s) (read_after s k (suc p) n))
        → Reads p (suc p + length s) (and_then (read_item o p n) (read_after s (item_length o - 1) (suc p) n))
    unfolding and_then
    item_reads c s p n h seam out Blank g rest =
        let blank : (i : ℕ) → i ≡ p → is_word_byte (get_or text i 0) ≡ true → ⊥
        = λ i q t. true_false t (let y : i ≡ p + 0 = omega arith in rw (y, byte_in text (c ∷ s) post p h 0 (omega arith)) g) in
        then_reads p (suc p + 0) (suc p + length s) (tokens []) (read_after s 0 (suc p) n)
        (record { whole = tt; ordered = omega arith; covers = λ i l m k w. absurd (blank i (omega arith) w) })
        (rest 0 (omega arith) (λ i q t. absurd (blank i (omega arith) t)))
    item_reads c s p n h seam out (Token kind m) g rest =
        let some = g.some in
        let fits = g.inside in
        then_reads p (suc p + (m - 1)) (suc p + length s) (tokens ((kind ∷ p ∷ m ∷ n ∷ []) ∷ [])) (read_after s (m - 1) (suc p) n)
        (record {
          whole = (token_whole text (c ∷ s) post p h kind m n seam (λ i a b. out i a (omega arith)) g, tt);
          ordered = (omega arith, omega arith);
          covers = λ i l b e w. by_less kind 15
              (λ k _. taken (record { number = 0; there = omega arith; from = l; to = omega arith; kinded = omega arith }))
              (λ k _. true_false w (let y : i ≡ p + (i - p) = omega arith in rw (y, byte_in text (c ∷ s) post p h (i - p) (omega arith)) (g.outer k (i - p) (omega arith))));
        })
        (rest (m - 1) (omega arith) (token_seam text (c ∷ s) post p h kind m g))
    item_reads c s p n h seam out (Refused r) g rest = tt

    -- A line's code from the place p on, of which the first k bytes are the rest of the token before.
    after_reads : (s : List ℕ) (k p n : ℕ) → k ≤ length s → drop p text ≡ s ++ post → Seam text (p + k) → Outside text p (p + length s)
        → Reads (p + k) (p + length s) (read_after s k p n)
    unfolding read_after
    after_reads [] k p n b h seam out = record { whole = tt; ordered = omega arith; covers = λ i l m e w. absurd (omega arith) }
    after_reads (c ∷ s) (suc k) p n b h seam out =
        let z : p + suc k ≡ suc p + k = omega arith in
        let y : p + suc (length s) ≡ suc p + length s = omega arith in
        rw (z, y) (after_reads s k (suc p) n (omega arith) (behind_one c s p h) (rw z at seam) (λ i l m. out i (omega arith) (omega arith)))
    after_reads (c ∷ s) zero p n b h seam out =
        let z : p + 0 ≡ p = omega arith in
        let y : p + suc (length s) ≡ suc p + length s = omega arith in
        rw (z, y) (item_reads c s p n h (rw z at seam) (λ i l m. out i l (omega arith)) (item_of (c ∷ s)) (item_good c s post plain)
        (λ k l g. after_reads s k (suc p) n l (behind_one c s p h) g (λ i a b. out i (omega arith) (omega arith))))

  -- The comment of a line x at the place p, and its end.
  rest_reads : (p : ℕ) (x : List ℕ) (is : x ≡ line_of (drop p text)) → PartRead (p + length (code_of x)) (p + length x + 1) []
  rest_reads p x is =
      record {
        whole = tt;
        ordered = let f = code_fits text p x is in omega arith;
        covers = λ i l m e w. by_less i (p + length x)
            (λ k _. commented (comment_place text p x is i l k))
            (λ k _. true_false w (let y : i ≡ p + length x = omega arith in rw y (end_plain text p x is)));
      }

  -- So no token is read between the code of a line and the next line.
  then_rest : (p : ℕ) (x : List ℕ) → x ≡ line_of (drop p text) → (o : Reading) → Reads (p + length x + 1) (length text + 1) o
      → Reads (p + length (code_of x)) (length text + 1) o
  unfolding and_then
  then_rest p x is (refused r n) h = tt
  then_rest p x is (tokens ts) h =
      then_reads (p + length (code_of x)) (p + length x + 1) (length text + 1) (tokens []) (tokens ts) (rest_reads p x is) h

  lines_read : (ls : List (List ℕ)) (p n : ℕ) → p ≤ length text + 1 → lines (drop p text) ≡ ls → Seam text p → Begins text p
      → Reads p (length text + 1) (read_lines ls p n)
  unfolding read_lines
  lines_read [] p n b e seam begins =
      let z = lines_none (drop p text) e in
      let y : length (drop p text) ≡ length text - p = length-drop p text in
      record { whole = tt; ordered = b; covers = λ i l m k w. absurd (omega arith) }
  lines_read (x ∷ ls) p n b e seam begins =
      let h = lines_first (drop p text) x ls e in
      let some = h.2 in
      let lies = line_fits text p x h.0 in
      let long : length (drop p text) ≡ length text - p = length-drop p text in
      let z : p + 0 ≡ p = omega arith in
      let y : p + suc (length x) ≡ p + length x + 1 = omega arith in
      let post : List ℕ = comment text p x h.0 ++ line_rest text p x h.0 in
      let code : Reads (p + 0) (p + length (code_of x)) (read_after (code_of x) 0 p n)
      = after_reads post (comment_plain text p x h.0) (code_of x) 0 p n (omega arith) (code_split text p x h.0) (rw z seam) (code_outside text p x h.0 begins) in
      then_reads p (p + length (code_of x)) (length text + 1) (read_after (code_of x) 0 p n) (read_lines ls (p + length x + 1) (n + 1))
      (rw z at code)
      (then_rest p x h.0 (read_lines ls (p + length x + 1) (n + 1))
      (lines_read ls (p + length x + 1) (n + 1) (omega arith) (ap (λ j. lines (drop j text)) (sym y) ∙ ap lines (sym (drop-drop (suc (length x)) p text)) ∙ sym h.1) (line_seam text p x h.0) (line_begins text p x h.0)))

lex_reads : (limit : ℕ) (text : List ℕ) → Reads text 0 (length text + 1) (lex_of limit text)
unfolding lex_of
lex_reads limit text =
    by_bool (ltb limit (length text)) (λ e. rw e tt)
    (λ e. rw e (by_bool (is_utf8 text)
    (λ f. rw f (go (outside_line (lines text) 1) (lines_read text (lines text) 0 1 (omega arith) refl (λ i q t. absurd (omega arith)) (λ i q l. absurd (omega arith)))))
    (λ f. rw f tt)))
  where
    go : (n : ℕ) → Reads text 0 (length text + 1) (read_lines (lines text) 0 1)
        → Reads text 0 (length text + 1) (in_domain n (read_lines (lines text) 0 1))
    go zero h = h
    go (suc n) h = tt

-- The tokens of every text that is read are its words and signs.
pub tokens_whole : (limit : ℕ) (text : List ℕ) (ts : List (List ℕ)) → lex_of limit text ≡ tokens ts → TokensWhole text ts
tokens_whole limit text ts e =
    let h = lex_reads limit text in
    let g : PartRead text 0 (length text + 1) ts = rw e at h in
    record {
      whole = g.whole;
      in_order = ordered_apart 0 (length text + 1) ts g.ordered;
      taken = λ i l w. g.covers i (omega arith) (omega arith) l w;
    }
