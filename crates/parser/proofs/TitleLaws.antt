-- What `titled`, `pred` and `def` have read at each of their places: a title and the items behind it, and their rows behind a free one.
use mathlib.Core.Path.{◌≡◌, refl, sym, ap, ◌∙◌}
use mathlib.Core.List.{List, [], ◌++◌}
use Prim.Native.Nat.{ℕ, ◌+◌, ◌<◌}
use native.Mathlib.Nat.{add-zero}
use lib.ListN.{length, take, drop}
use Rattle.term_parser.specs.Source.{Place}
use Rattle.term_parser.specs.Parsing.{Tokens, last_line, Parsed, parsed, absent, refused, plus, follow}
use Rattle.term_parser.specs.Grammar.{name_of}
use Rattle.term_parser.specs.Lists.{title_of, separated}
use Rattle.term_parser.specs.Rows.{Rows, rows_of_all, name_rows}
use Rattle.term_parser.specs.Steps.{Step}
use Rattle.term_parser.specs.Steps.Step.{At}
use Rattle.term_parser.specs.Promises.{told, Room, Answers, Lists}
use Rattle.term_parser.specs.Firmness.{Firm, firm_name}
use Rattle.parser.specs.Source.{Titled, Declaration}
use Rattle.parser.specs.Declarations.{titled_of}
use Rattle.parser.specs.Rows.{single_rows, titled_rows, declaration_rows}
use Rattle.term_parser.proofs.Readers.{Stopped, got}
use Rattle.term_parser.proofs.ListLaws.{firm_title, firm_separated}
use Rattle.parser.proofs.PartLaws.{Along, start, part, part_stopped}
use Rattle.parser.proofs.DeclarationLaws.{separated_some}

-- What the items are: their rows, the sign between them, and how one is read.
pub record Items (A : Type 0) : Type 0 where
  pub rows : A → Rows
  pub sign : ℕ
  pub item : Tokens → Parsed A
  pub firm : (us : Tokens) → Firm (item us)

-- names, as sorts are
abbrev pub names_to : ℕ → Items Place
names_to last = record { rows = name_rows; sign = 15; item = name_of last; firm = firm_name last }

-- `then` reads what follows the items.
module _ {A D : Type 0} (rowsD : D → Rows) (items : Items A) (ts : Tokens) {at used : ℕ} {out : Rows} (room : Room ts at used out) (here : at < length ts) (then : Place → List A → Tokens → Parsed D) where
  abbrev pub behind_title : Place → Tokens → Parsed D
  behind_title n us = follow (separated items.sign items.item us) us (then n)

  abbrev pub whole : Parsed D
  whole = plus 1 (follow (title_of (last_line ts) (drop (at + 1) ts)) (drop (at + 1) ts) behind_title)

  begun : Along rowsD whole ts at used out (at + 1) (used + 1) out (follow (title_of (last_line ts) (drop (at + 1) ts)) (drop (at + 1) ts) behind_title) []
  begun = start rowsD room here _ _ refl

  -- the title
  module _ {r₁ : Step} {out₁ : Rows} (h₁ : Answers 2 name_rows (title_of (last_line ts) (drop (at + 1) ts)) ts (at + 1) (used + 1) out r₁ out₁) where
    pub title_stops : Stopped r₁ → Answers 1 rowsD whole ts at used out r₁ out₁
    title_stops s = part_stopped begun behind_title refl h₁ s (firm_title (last_line ts) (drop (at + 1) ts))

    module _ {q₁ k₁ i₁ : ℕ} (e₁ : r₁ ≡ At q₁ k₁ i₁) (l₁ : length out₁ ≡ length out) where
      pub after_title : Along rowsD whole ts at used out q₁ k₁ out₁ (behind_title (got h₁ e₁).item (drop q₁ ts)) (name_rows (got h₁ e₁).item)
      after_title = part begun behind_title refl h₁ e₁ l₁

      -- the items
      module _ {r₂ : Step} {out₂ : Rows} (h₂ : Lists 1 items.rows (separated items.sign items.item (drop q₁ ts)) ts q₁ k₁ out₁ r₂ out₂) where
        pub items_stop : Stopped r₂ → Answers 1 rowsD whole ts at used out r₂ out₂
        items_stop s = part_stopped after_title (then (got h₁ e₁).item) refl h₂.answers s (firm_separated items.sign items.item items.firm (drop q₁ ts))

        module _ {q₂ k₂ i₂ : ℕ} (e₂ : r₂ ≡ At q₂ k₂ i₂) (l₂ : length out₂ ≡ length out₁) where
          pub after_items : Along rowsD whole ts at used out q₂ k₂ out₂ (then (got h₁ e₁).item (got h₂.answers e₂).item (drop q₂ ts)) (name_rows (got h₁ e₁).item ++ rows_of_all items.rows (got h₂.answers e₂).item)
          after_items = part after_title (then (got h₁ e₁).item) refl h₂.answers e₂ l₂

          pub item_count : i₂ ≡ length (got h₂.answers e₂).item
          item_count = h₂.counted _ _ _ e₂ _ _ (got h₂.answers e₂).is

          pub some_items : 0 < length (got h₂.answers e₂).item
          some_items = separated_some items.sign items.item (drop q₁ ts) (got h₂.answers e₂).is

-- What is read as one thing is read as another that is made of it.
abbrev mapped : {A B : Type 0} → (A → B) → Parsed A → Parsed B
mapped f (parsed a n) = parsed (f a) n
mapped f absent = absent
mapped f (refused r l) = refused r l

module _ {A B : Type 0} (f : A → B) where
  mapped_plus : (n : ℕ) (x : Parsed A) → mapped f (plus n x) ≡ plus n (mapped f x)
  mapped_plus n (parsed a m) = refl
  mapped_plus n absent = refl
  mapped_plus n (refused r l) = refl

  mapped_follow : {C : Type 0} (x : Parsed C) (ts : Tokens) (next : C → Tokens → Parsed A) (next' : C → Tokens → Parsed B) → ((c : C) (us : Tokens) → mapped f (next c us) ≡ next' c us)
      → mapped f (follow x ts next) ≡ follow x ts next'
  mapped_follow (parsed c n) ts next next' h = mapped_plus n (next c (drop n ts)) ∙ ap (plus n) (h c (drop n ts))
  mapped_follow absent ts next next' h = refl
  mapped_follow (refused r l) ts next next' h = refl

  told_mapped : (rowsA : A → Rows) (rowsB : B → Rows) → ((a : A) → rowsB (f a) ≡ rowsA a) → (p : ℕ) (before : Rows) (x : Parsed A) → told rowsB p before (mapped f x) ≡ told rowsA p before x
  told_mapped rowsA rowsB e p before (parsed a n) = ap (λ z. told (λ _. z) p before (parsed a n)) (e a)
  told_mapped rowsA rowsB e p before absent = refl
  told_mapped rowsA rowsB e p before (refused r l) = refl

-- A declaration that is made of one item.
mapped_item : {A B : Type 0} (f : A → B) (x : Parsed A) (us : Tokens) → follow x us (λ a vs. parsed (f a) 0) ≡ mapped f x
mapped_item f (parsed a n) us = let e : n + 0 ≡ n = add-zero n in ap (parsed (f a)) e
mapped_item f absent us = refl
mapped_item f (refused r l) us = refl

pub item_alone : {A : Type 0} (x : Parsed A) (us : Tokens) → x ≡ follow x us (λ a vs. parsed a 0)
item_alone (parsed a n) us = let e : n ≡ n + 0 = sym (add-zero n) in ap (parsed a) e
item_alone absent us = refl
item_alone (refused r l) us = refl

module _ {A : Type 0} (make : A → Declaration) (rows : A → Rows) (kind number : ℕ) (made : (a : A) → declaration_rows number (make a) ≡ single_rows rows kind number a) where
  pub declares_item : (x : Parsed A) (us : Tokens) {ts : Tokens} {p u : ℕ} {before : Rows} {r : Step} {after : Rows} → Answers 1 (single_rows rows kind number) (plus 1 x) ts p u before r after
      → Answers 1 (declaration_rows number) (plus 1 (follow x us (λ a vs. parsed (make a) 0))) ts p u before r after
  declares_item x us {ts} {p} {u} {before} h = record {
    is = h.is ∙ sym (ap (told (declaration_rows number) p (take u before)) (ap (plus 1) (mapped_item make x us) ∙ sym (mapped_plus make 1 x))
        ∙ told_mapped make (single_rows rows kind number) (declaration_rows number) made p (take u before) (plus 1 x));
    within = h.within;
    still = h.still;
  }

-- A declaration that is made of a title and items.
module _ {A : Type 0} (make : Place → List A → Declaration) (rows : A → Rows) (kind number : ℕ) (made : (t : Titled A) → declaration_rows number (make t.title t.items) ≡ titled_rows rows kind number t) where
  pub declares : (last : ℕ) (list : Tokens → Parsed (List A)) (us : Tokens) {ts : Tokens} {p u : ℕ} {before : Rows} {r : Step} {after : Rows} → Answers 1 (titled_rows rows kind number) (plus 1 (titled_of last list us)) ts p u before r after
      → Answers 1 (declaration_rows number) (plus 1 (follow (title_of last us) us (λ n vs. follow (list vs) vs (λ l ws. parsed (make n l) 0)))) ts p u before r after
  declares last list us {ts} {p} {u} {before} h = record {
    is = h.is ∙ sym (ap (told (declaration_rows number) p (take u before)) is ∙ told_mapped of (titled_rows rows kind number) (declaration_rows number) made p (take u before) (plus 1 (titled_of last list us)));
    within = h.within;
    still = h.still;
  }
    where
      of : Titled A → Declaration
      of t = make t.title t.items

      is : plus 1 (follow (title_of last us) us (λ n vs. follow (list vs) vs (λ l ws. parsed (make n l) 0))) ≡ mapped of (plus 1 (titled_of last list us))
      is = sym (mapped_plus of 1 (titled_of last list us)
          ∙ ap (plus 1) (mapped_follow of (title_of last us) us _ _ (λ n vs. mapped_follow of (list vs) vs (λ l ws. parsed (record { title = n; items = l }) 0) (λ l ws. parsed (make n l) 0) (λ l ws. refl))))
