-- A premise in storage: its arguments, its call and its result come to one step of `premises_of`.
use Prim.Native.Nat.{ℕ, zero, suc, ◌+◌, ◌-◌, ◌%◌, ◌≤◌, ◌<◌}
use native.Mathlib.Omega.{arith}
use native.Mathlib.Numerals.{add-one}
use mathlib.Core.Path.{◌≡◌, refl, sym, ap, ap₂, ◌∙◌, subst}
use mathlib.Core.Bool.{Bool, true, false}
use mathlib.Core.List.{List, ◌++◌}
use lib.ListN.{length, take, drop, length-take, length-drop, length-append, get_or-append}
use lib.Seq.{get_or-take}
use Rattle.terms.specs.Term.{Term, Terms, app, nil, cons}
use Rattle.terms.specs.Term.Kind.{one as single, many as several}
use Rattle.terms.specs.Bindings.{Bindings}
use Rattle.arena.specs.Cells.{headers, cells, Cells, symbol_of, arity_of, args, denote, denote_node, reference_argument, args_same}
use Rattle.arena.specs.Copies.{pattern_room}
use Rattle.names.specs.Symbols.{Rows, Symbol, symbol_at}
use Rattle.resolution.specs.Rules.{Rule, Tree, leaf, ◌◂◌}
use Rattle.resolution.specs.Search.{words as words_in}
use Rattle.evaluation.specs.Matching.{Fitted, bind_of, Built, barred, built, instantiate_of, front, last}
use Rattle.evaluation.specs.Calls.{Spent, Called, refused, returned, Walked, walked, if_arguments, if_called, if_result, premises_of, call_of}
use Rattle.clause_matching.specs.Stored.{Value, PatternIn, Holds, pattern_at, value_at}
use Rattle.clause_matching.specs.Matching.{Says, Matched, BindAsked}
use Rattle.clause_matching.specs.Building.{rule_words, Stands, ArgumentsAsked, StandAll, TellsAll, ArgumentsBuilt}
use Rattle.clause_matching.specs.Choice.{values_of}
use Rattle.function_calls.specs.Calls.{outcome, PremiseIn, Program, TreesListed, Answers, CallAsked, CallAnswered, Steps, PremiseAsked, PremiseAnswered}
use Rattle.std.specs.Prelude.{Result, Ok, Err}
use Rattle.refusals.specs.declared.Refusal.{Refusal}
use Rattle.refusals.specs.Refusals.{number_of}
use Rattle.function_calls.specs.declared.calls.Outcome.{Outcome}
use Rattle.refusals.specs.declared.Refusal.TheVariants.{Inconsistent}
use Rattle.function_calls.proofs.Forming.{refused_forms, answer_forms, refused_spent, answer_spent}
use Rattle.clause_matching.proofs.Forming.{ok_is}
use Rattle.clause_matching.proofs.BuildTurns.{holds_grown}
use Rattle.clause_matching.proofs.BindTurns.{says_false, says_true}
use Rattle.clause_matching.proofs.Choosing.{words_argument}
use Rattle.function_calls.proofs.Listing.{listed_one}

-- All arguments but the last, and the last.
pub front_args : (g : ℕ → Term) (w : Cells) (p n : ℕ) → front (args g w p (suc n)) ≡ args g w p n
front_args g w p zero = refl
front_args g w p (suc n) = ap (cons (g (w p))) (front_args g w (suc p) n)

pub last_args : (g : ℕ → Term) (w : Cells) (p n : ℕ) → last (args g w p (suc n)) ≡ g (w (p + n))
last_args g w p zero = let e : p ≡ p + 0 = omega arith in ap (λ (k : ℕ). g (w k)) e
last_args g w p (suc n) = let e : suc p + n ≡ p + suc n = omega arith in last_args g w (suc p) n ∙ ap (λ (k : ℕ). g (w k)) e

-- What answers say.
all_refused : (o : Built several) (refusal : Refusal) (values values' slots : List ℕ) (count used limit : ℕ) → TellsAll o (Err refusal) values values' slots count used limit
    → o ≡ barred (number_of refusal)
all_refused (barred e) refusal values values' slots count used limit h = ap barred (sym h)
all_refused (built ts u) refusal values values' slots count used limit h = let e = h.0 in absurd (let z : ⊥ = cc in z)

record FoundAll (o : Built several) (values values' slots : List ℕ) (count used limit used' : ℕ) : Type 0 where
  pub terms : Terms
  pub comes : o ≡ built terms used'
  pub stand : StandAll values used limit values' slots count terms used'

all_found : (o : Built several) (used' : ℕ) (values values' slots : List ℕ) (count used limit : ℕ) → TellsAll o (Ok used') values values' slots count used limit
    → FoundAll o values values' slots count used limit used'
all_found (barred e) used' values values' slots count used limit h = absurd h
all_found (built ts u) used' values values' slots count used limit (e, s) =
    let a : u ≡ used' = cc in
    record { terms = ts; comes = ap (λ (x : ℕ). built ts x) a; stand = subst (λ (x : ℕ). StandAll values used limit values' slots count ts x) a s }

abbrev pub spent_of : ℕ → ℕ → Spent
spent_of calls words = record { calls = calls; words = words }

-- What a call of a function says, with the calls before it and its height.
module _ (words : List ℕ) (trees : Rows) (words' : List ℕ) (trees' : Rows) (used limit before height : ℕ) where
  pub call_refused : (o : Called) (refusal : Refusal) → Answers o (Err refusal) words trees words' trees' used limit before height
      → o ≡ refused (number_of refusal)
  call_refused (refused e) refusal h = ap refused (sym h)
  call_refused (returned v p c) refusal h = let e = h.1 in absurd (let z : ⊥ = cc in z)

  pub record Returned (o : Called) (value calls used' : ℕ) : Type 0 where
    pub result : Term
    pub tree : Tree single
    pub comes : o ≡ returned result tree (record { calls = calls; words = used' })
    pub stands : Stands words used limit words' result value used'
    pub listed : TreesListed trees before height words' trees' tree (record { calls = calls; words = used' })

  pub call_returned : (o : Called) (value calls used' : ℕ)
      → Answers o (outcome value calls used') words trees words' trees' used limit before height → Returned o value calls used'
  call_returned (refused e) value calls used' h = absurd h
  call_returned (returned v p c) value calls used' (x, e, s, t) =
      let a : c.words ≡ used' = ap (λ (o : Outcome). o.spent.used) (sym (ok_is e)) in
      let b : x ≡ value = ap (λ (o : Outcome). o.value) (sym (ok_is e)) in
      let d : c.calls ≡ calls = ap (λ (o : Outcome). o.spent.calls) (sym (ok_is e)) in
      let spent : c ≡ spent_of calls used' = ap₂ spent_of d a in
      record {
        result = v;
        tree = p;
        comes = ap (λ (m : Spent). returned v p m) spent;
        stands = subst (λ (y : ℕ). Stands words used limit words' v value y) a
            (subst (λ (y : ℕ). Stands words used limit words' v y c.words) b s);
        listed = subst (λ (m : Spent). TreesListed trees before height words' trees' p m) spent t;
      }

-- What is said of an array's first part is said of the array.
whole_tells : (o : Built several) (r : Result ℕ Refusal) (values values' part slots : List ℕ) (count used limit : ℕ) → ((i : ℕ) → i < count → cells slots i ≡ cells part i)
    → TellsAll o r values values' part count used limit → TellsAll o r values values' slots count used limit
whole_tells (barred e) r values values' part slots count used limit s h = h
whole_tells (built ts u) r values values' part slots count used limit s (e, h) = (
  e,
  record {
    stored = h.stored;
    roots = λ i m. rw (s i m) (h.roots i m);
    are = args_same 0 (denote 0 (cells values')) (denote 0 (cells values')) (cells slots) (cells part) 0 count
        (λ i m. let z : 0 + i ≡ i = omega arith in ap (denote 0 (cells values')) (ap (cells slots) z ∙ s i m ∙ ap (cells part) (sym z)))
        ∙ h.are;
    same = h.same;
    grows = h.grows;
    within = h.within;
  },
)

pub built_whole : {pattern : List ℕ} {first count : ℕ} {environment values : List ℕ} {used limit : ℕ} {r : Result ℕ Refusal} {values' part : List ℕ} (slots : List ℕ)
    → ((i : ℕ) → i < count → cells slots i ≡ cells part i)
    → ArgumentsBuilt pattern first count environment values used limit r values' part → ArgumentsBuilt pattern first count environment values used limit r values' slots
built_whole {pattern} {first} {count} {environment} {values} {used} {limit} {r} {values'} {part} slots s h = record {
  tells = λ β b. whole_tells (instantiate_of limit β (args (denote pattern_room (cells pattern)) (cells pattern) first count) used) r values values' part slots count used limit s (h.tells β b);
  forms = h.forms;
  kept = h.kept;
}

-- The values of the first references of an array.
values_taken : (words slots : List ℕ) (count : ℕ) → count ≤ length slots → values_of words (take count slots) ≡ args (denote 0 (cells words)) (cells slots) 0 count
values_taken words slots count l =
    let n : length (take count slots) ≡ count = simp length-take (omega arith) in
    ap (λ (k : ℕ). args (denote 0 (cells words)) (cells (take count slots)) 0 k) n
    ∙ args_same 0 (denote 0 (cells words)) (denote 0 (cells words)) (cells (take count slots)) (cells slots) 0 count
    (λ i m. let e : 0 + i ≡ i = omega arith in ap (denote 0 (cells words)) (ap (cells (take count slots)) e ∙ get_or-take count slots i 0 m ∙ ap (cells slots) (sym e)))

-- One premise of `premises_of`.
abbrev pub step_of : ℕ → (ℕ → Terms → Spent → Called) → ℕ → Terms → Term → Bindings → ℕ → ℕ → Walked
step_of limit call g fs l β calls used =
    if_arguments (instantiate_of limit β fs used) (λ vs u. if_called (call g vs (record { calls = calls; words = u })) (λ v p d. if_result (bind_of l v β) (λ γ. walked γ (p ◂ leaf) d)))

module _ {pattern : List ℕ} {size : ℕ} {symbols : List Symbol} {reference : ℕ} (p : PremiseIn symbols pattern size reference) where
  abbrev address : ℕ
  address = reference - pattern_room

  abbrev header : ℕ
  header = cells pattern address

  abbrev inputs : ℕ
  inputs = arity_of header - 1

  abbrev inner : Terms
  inner = args (denote pattern_room (cells pattern)) (cells pattern) (suc address) inputs

  abbrev last_at : ℕ
  last_at = suc address + inputs

  pub premise_words : (suc address + arity_of header ≤ size) × (size ≤ length pattern) × (pattern_room + size ≤ headers) × (headers ≤ header) × (arity_of header ≡ suc inputs)
  premise_words =
      let q = p.patterned in let n = q.root.node p.node in let k = p.node in let s = p.some_inputs in
      let f = q.formed.fits address (omega arith) (q.root.header k) in
      (omega arith, q.within, q.low, q.root.header k, omega arith)

  premise_node : pattern_at pattern reference ≡ app (symbol_of header) (args (denote pattern_room (cells pattern)) (cells pattern) (suc address) (suc inputs))
  premise_node =
      let q = p.patterned in let (a, b, c, d, e) = premise_words in
      denote_node pattern_room (cells pattern) pattern_room size q.formed reference q.root p.node
      ∙ ap (λ (n : ℕ). app (symbol_of header) (args (denote pattern_room (cells pattern)) (cells pattern) (suc address) n)) e

  -- Each argument is a pattern of few words.
  argument_in : (i : ℕ) → i < arity_of header → PatternIn pattern size (cells pattern (suc address + i)) rule_words
  argument_in i l =
      let q = p.patterned in
      record {
        within = q.within;
        low = q.low;
        formed = q.formed;
        root = reference_argument pattern_room (cells pattern) pattern_room size q.formed reference i q.root p.node l;
        small = (let d = denote_node pattern_room (cells pattern) pattern_room size q.formed reference q.root p.node in
            let w = words_argument (denote pattern_room (cells pattern)) (cells pattern) (suc address) (arity_of header) i l in
            let s : words_in (app (symbol_of header) (args (denote pattern_room (cells pattern)) (cells pattern) (suc address) (arity_of header))) ≤ rule_words = rw d at q.small in
            omega arith);
      }

  module _ (limit : ℕ) (call : ℕ → Terms → Spent → Called) (β : Bindings) (calls used : ℕ) where
    premise_step : premises_of limit call (cons (pattern_at pattern reference) nil) β (record { calls = calls; words = used })
        ≡ step_of limit call (symbol_of header) inner (pattern_at pattern (cells pattern last_at)) β calls used
    unfolding premises_of
    premise_step =
        ap (λ (t : Term). premises_of limit call (cons t nil) β (record { calls = calls; words = used })) premise_node
        ∙ ap₂ (λ (fs : Terms) (l : Term). step_of limit call (symbol_of header) fs l β calls used)
        (front_args (denote pattern_room (cells pattern)) (cells pattern) (suc address) inputs) (last_args (denote pattern_room (cells pattern)) (cells pattern) (suc address) inputs)

-- The step by the header and the address of the first argument.
abbrev pub step_at : ℕ → List ℕ → (ℕ → Terms → Spent → Called) → ℕ → ℕ → ℕ → Bindings → ℕ → ℕ → Walked
step_at limit pattern call header first count β calls used =
    step_of limit call (symbol_of header) (args (denote pattern_room (cells pattern)) (cells pattern) first count) (pattern_at pattern (cells pattern (first + count))) β calls used

step_at_lem : {pattern : List ℕ} {size : ℕ} {symbols : List Symbol} {reference : ℕ} (p : PremiseIn symbols pattern size reference) (limit : ℕ) (call : ℕ → Terms → Spent → Called)
    (header first count : ℕ) (β : Bindings) (calls used : ℕ) → header ≡ cells pattern (reference - pattern_room) → first ≡ suc (reference - pattern_room) → count ≡ arity_of header - 1
    → premises_of limit call (cons (pattern_at pattern reference) nil) β (record { calls = calls; words = used }) ≡ step_at limit pattern call header first count β calls used
step_at_lem {pattern} {reference = reference} p limit call header first count β calls used hd ft ct =
    premise_step p limit call β calls used
    ∙ ap₂ (λ (x y : ℕ). step_at limit pattern call x y (arity_of x - 1) β calls used) (sym hd) (sym ft)
    ∙ ap (λ (n : ℕ). step_at limit pattern call header first n β calls used) (sym ct)

-- The ways through a premise. The values of variables β are those before it.
module _ (limit : ℕ) (pattern : List ℕ) (call : ℕ → Terms → Spent → Called) (header first count : ℕ) (β : Bindings)
    (calls used : ℕ) (environment words : List ℕ) (trees : Rows) (height : ℕ) where
  abbrev now : Walked
  now = step_at limit pattern call header first count β calls used

  arguments_stop : (refusal : Refusal) (words' environment' slots : List ℕ) (trees' : Rows)
      → TellsAll (instantiate_of limit β (args (denote pattern_room (cells pattern)) (cells pattern) first count) used) (Err refusal) words words' slots count used limit
      → Steps now (Err refusal) words trees words' environment' trees' used limit calls height
  arguments_stop refusal words' environment' slots trees' t =
      let o = all_refused (instantiate_of limit β (args (denote pattern_room (cells pattern)) (cells pattern) first count) used) refusal words words' slots count used limit t in
      subst (λ (x : Walked). Steps x (Err refusal) words trees words' environment' trees' used limit calls height)
      (ap (λ (b : Built several). if_arguments b (λ vs u. if_called (call (symbol_of header) vs (record { calls = calls; words = u }))
      (λ v p d. if_result (bind_of (pattern_at pattern (cells pattern (first + count))) v β) (λ γ. walked γ (p ◂ leaf) d)))) (sym o)) refl

  -- The arguments are built.
  module _ (words₁ slots : List ℕ) (before : ℕ) (room : count ≤ length slots)
      (f : FoundAll (instantiate_of limit β (args (denote pattern_room (cells pattern)) (cells pattern) first count) used) words words₁ slots count used limit before) where
    abbrev called : Called
    called = call (symbol_of header) (values_of words₁ (take count slots)) (record { calls = calls; words = before })

    now_called : now ≡ if_called called (λ v p d. if_result (bind_of (pattern_at pattern (cells pattern (first + count))) v β) (λ γ. walked γ (p ◂ leaf) d))
    now_called =
        ap (λ (b : Built several). if_arguments b (λ vs u. if_called (call (symbol_of header) vs (record { calls = calls; words = u }))
        (λ v p d. if_result (bind_of (pattern_at pattern (cells pattern (first + count))) v β) (λ γ. walked γ (p ◂ leaf) d)))) f.comes
        ∙ ap (λ (vs : Terms). if_called (call (symbol_of header) vs (record { calls = calls; words = before }))
        (λ v p d. if_result (bind_of (pattern_at pattern (cells pattern (first + count))) v β) (λ γ. walked γ (p ◂ leaf) d))) (sym (values_taken words₁ slots count room ∙ f.stand.are))

    call_stop : (refusal : Refusal) (words₂ environment' : List ℕ) (trees₂ : Rows)
        → Answers called (Err refusal) words₁ trees words₂ trees₂ before limit calls (suc height)
        → Steps now (Err refusal) words trees words₂ environment' trees₂ used limit calls height
    call_stop refusal words₂ environment' trees₂ a =
        let o = call_refused words₁ trees words₂ trees₂ before limit calls (suc height) called refusal a in
        subst (λ (x : Walked). Steps x (Err refusal) words trees words₂ environment' trees₂ used limit calls height)
        (ap (λ (b : Called). if_called b (λ v p d. if_result (bind_of (pattern_at pattern (cells pattern (first + count))) v β) (λ γ. walked γ (p ◂ leaf) d))) (sym o) ∙ sym now_called) refl

    -- The call is made.
    module _ (words₂ : List ℕ) (trees₂ : Rows) (value made after : ℕ)
        (r : Returned words₁ trees words₂ trees₂ before limit calls (suc height) called value made after) where
      now_result : now ≡ if_result (bind_of (pattern_at pattern (cells pattern (first + count))) (value_at words₂ value) β) (λ γ. walked γ (r.tree ◂ leaf) (record { calls = made; words = after }))
      now_result =
          now_called
          ∙ ap (λ (b : Called). if_called b (λ v p d. if_result (bind_of (pattern_at pattern (cells pattern (first + count))) v β) (λ γ. walked γ (p ◂ leaf) d))) r.comes
          ∙ ap (λ (v : Term). if_result (bind_of (pattern_at pattern (cells pattern (first + count))) v β) (λ γ. walked γ (r.tree ◂ leaf) (record { calls = made; words = after }))) (sym r.stands.is)

      result_stop : (environment' : List ℕ) → Says (bind_of (pattern_at pattern (cells pattern (first + count))) (value_at words₂ value) β) false environment' words₂ after
          → Steps now (Err Inconsistent) words trees words₂ environment' trees₂ used limit calls height
      result_stop environment' s =
          let o = says_false (bind_of (pattern_at pattern (cells pattern (first + count))) (value_at words₂ value) β) environment' words₂ after s in
          subst (λ (x : Walked). Steps x (Err Inconsistent) words trees words₂ environment' trees₂ used limit calls height)
          (ap (λ (b : Fitted). if_result b (λ γ. walked γ (r.tree ◂ leaf) (record { calls = made; words = after }))) (sym o) ∙ sym now_result) refl

      result_fits : (environment' : List ℕ) → Says (bind_of (pattern_at pattern (cells pattern (first + count))) (value_at words₂ value) β) true environment' words₂ after
          → Steps now (outcome value made after) words trees words₂ environment' trees₂ used limit calls height
      result_fits environment' s =
          let (γ, o, w) = says_true (bind_of (pattern_at pattern (cells pattern (first + count))) (value_at words₂ value) β) environment' words₂ after s in
          let g = f.stand.grows in let g' = r.stands.grows in
          subst (λ (x : Walked). Steps x (outcome value made after) words trees words₂ environment' trees₂ used limit calls height)
          (ap (λ (b : Fitted). if_result b (λ γ. walked γ (r.tree ◂ leaf) (record { calls = made; words = after }))) (sym o) ∙ sym now_result)
          (record {
            value = value;
            is = refl;
            stored = r.stands.stored;
            holds = w;
            same = λ i m. f.stand.same i m ∙ r.stands.same i (omega arith);
            grows = omega arith;
            within = r.stands.within;
            listed = listed_one r.listed;
          })

-- The premise of the code.
module _ {symbol_rows rule_rows : Rows} {pattern : List ℕ} {header first depth height calls used limit : ℕ} {environment words links : List ℕ}
    {trees stack : Rows}
    (h : PremiseAsked symbol_rows rule_rows pattern header first depth height calls used limit environment words links trees stack) where
  abbrev count : ℕ
  count = header % 32 - 1

  pub record Sizes : Type 0 where
    pub high : headers ≤ header
    pub some_inputs : 0 < header % 32
    pub few : header % 32 ≤ 16
    pub inside : first + header % 32 ≤ length pattern
    pub low : first + header % 32 ≤ headers

  pub sizes : Sizes
  sizes =
      let (a, b, c, d, e) = premise_words h.premise in
      let x = h.header_is in let y = h.first_is in let s = h.premise.some_inputs in let f = h.premise.few in
      record { high = rw x d; some_inputs = rw x s; few = rw x f; inside = rw (x, y) (omega arith); low = rw (x, y) (omega arith) }

  -- The function of the call is one of few.
  pub call_known : symbol_of header < 1024
  call_known = let k = h.premise.known in let l = h.program.limited in let e : symbol_of header ≡ symbol_of (cells pattern (h.reference - pattern_room)) = ap symbol_of h.header_is in omega arith

  pub arguments_asked : (slots : List ℕ) → length slots ≡ 16 → ArgumentsAsked pattern first count environment words used limit stack slots
  arguments_asked slots n =
      let s = sizes in let a = s.some_inputs in let b = s.few in let c = s.inside in
      record {
        size = h.size;
        patterned = λ i l. rw h.first_is (argument_in h.premise i (let l' : i < header % 32 - 1 = l in let z : i < header % 32 = omega arith in rw h.header_is at z));
        inside = omega arith;
        places = omega arith;
        stored = h.working.stored;
        long = h.long;
        known = h.known;
        fits = h.working.fits;
        low = h.working.low;
        scratch = h.working.scratch;
        rows = h.working.rows;
      }

  pub taken_count : (slots : List ℕ) → length slots ≡ 16 → count ≡ length (take count slots)
  taken_count slots n = let s = sizes in let b = s.few in let l : length (take count slots) ≡ count = simp length-take (omega arith) in sym l

  -- The part of the places that is lent, and all of them afterwards.
  pub part_asked : (slots : List ℕ) → length slots ≡ 16
      → ArgumentsAsked pattern first (length (take count slots)) environment words used limit stack (take count slots)
  part_asked slots n =
      let a = arguments_asked slots n in let e = taken_count slots n in
      rw (sym e) (record {
        size = a.size;
        patterned = a.patterned;
        inside = a.inside;
        places = omega arith;
        stored = a.stored;
        long = a.long;
        known = a.known;
        fits = a.fits;
        low = a.low;
        scratch = a.scratch;
        rows = a.rows;
      })

  pub part_whole : {r : Result ℕ Refusal} {words' part : List ℕ} (slots : List ℕ) → length slots ≡ 16 → length part ≡ length (take count slots)
      → ArgumentsBuilt pattern first (length (take count slots)) environment words used limit r words' part
      → ArgumentsBuilt pattern first count environment words used limit r words' (part ++ drop count slots)
  part_whole {part = part} slots n k a =
      let e = taken_count slots n in
      built_whole (part ++ drop count slots) (λ i l. get_or-append part (drop count slots) 0 i (omega arith)) (rw (sym e) at a)

  pub part_length : (part slots : List ℕ) → length slots ≡ 16 → length part ≡ length (take count slots) → length (part ++ drop count slots) ≡ 16
  part_length part slots n k =
      let e = taken_count slots n in let d = length-drop count slots in let b = sizes.few in
      length-append part (drop count slots) ∙ (let z : length part + length (drop count slots) ≡ 16 = omega arith in z)

  -- What any reading of the storage says of the call: its function is known, and has these inputs.
  call_fits : (symbols : List Symbol) (size reference : ℕ) → PremiseIn symbols pattern size reference → header ≡ cells pattern (reference - pattern_room)
      → (slots : List ℕ) → length slots ≡ 16
      → (symbol_of header < length symbols) × (suc (length (take count slots)) ≡ length (symbol_at symbols (symbol_of header)).inputs)
  call_fits symbols size reference p hd slots n =
      let s = sizes in let a = s.some_inputs in let b = s.few in
      let l : length (take count slots) ≡ count = simp length-take (omega arith) in
      let i : header % 32 ≡ length (symbol_at symbols (symbol_of header)).inputs = rw hd p.inputs in
      (rw hd p.known, omega arith)

  -- The arguments were tried.
  module _ {answer : Result ℕ Refusal} {words₁ slots : List ℕ} (a : ArgumentsBuilt pattern first count environment words used limit answer words₁ slots) where
    pub arguments_refused : (refusal : Refusal) → answer ≡ Err refusal
        → PremiseAnswered symbol_rows rule_rows pattern header first depth height calls used limit environment words links trees
        (Err refusal) environment words₁ links trees
    arguments_refused refusal q = record {
      says = λ size symbols rules P reference p hd ft β b.
          subst (λ (x : Walked). Steps x (Err refusal) words trees words₁ environment trees used limit calls height)
          (sym (step_at_lem p limit (call_of limit symbols rules (128 - depth)) header first count β calls used hd ft refl))
          (arguments_stop limit pattern (call_of limit symbols rules (128 - depth)) header first count β calls used environment words
          trees height refusal words₁ environment slots trees
          (subst (λ (x : Result ℕ Refusal). TellsAll (instantiate_of limit β (args (denote pattern_room (cells pattern)) (cells pattern) first count) used) x words words₁ slots count used limit) q (a.tells β b)));
      forms = refused_forms pattern refusal words words₁ used;
      spends = refused_spent refusal calls used;
      kept = a.kept;
      keeps = refl;
      restored = refl;
    }

    -- They are built.
    module _ (before : ℕ) (q : answer ≡ Ok before) (n : length slots ≡ 16) where
      found_arguments : (β : Bindings) → Holds environment words used β
          → FoundAll (instantiate_of limit β (args (denote pattern_room (cells pattern)) (cells pattern) first count) used) words words₁ slots count used limit before
      found_arguments β b =
          all_found (instantiate_of limit β (args (denote pattern_room (cells pattern)) (cells pattern) first count) used) before words words₁ slots count used limit
          (subst (λ (x : Result ℕ Refusal). TellsAll (instantiate_of limit β (args (denote pattern_room (cells pattern)) (cells pattern) first count) used) x words words₁ slots count used limit) q (a.tells β b))

      abbrev room : count ≤ length slots
      room = let s = sizes in let x = s.few in omega arith

      abbrev stand : FoundAll (instantiate_of limit h.known.0 (args (denote pattern_room (cells pattern)) (cells pattern) first count) used) words words₁ slots count used limit before
      stand = found_arguments h.known.0 h.known.1

      pub taken_roots : (k : ℕ) → k < length (take count slots) → Value words₁ before (cells (take count slots) k)
      taken_roots k l =
          let m : length (take count slots) ≡ count = (let r = room in simp length-take (omega arith)) in
          let l' : k < count = rw m at l in
          subst (λ (x : ℕ). Value words₁ before x) (sym (get_or-take count slots k 0 l')) (stand.stand.roots k l')

      pub call_asked : (stack₁ : Rows) → length stack₁ ≡ length stack
          → CallAsked symbol_rows rule_rows pattern (symbol_of header) (take count slots) (depth + 1) (height + 1) calls before limit
          words₁ links trees stack₁
      call_asked stack₁ m =
          let (x, y) = call_fits h.symbols h.size h.reference h.premise h.header_is slots n in
          record {
            size = h.size;
            symbols = h.symbols;
            rules = h.rules;
            program = h.program;
            known = x;
            inputs = y;
            working = record {
              stored = stand.stand.stored;
              fits = stand.stand.within;
              low = h.working.low;
              scratch = let k = a.kept in let s = h.working.scratch in omega arith;
              linked = h.working.linked;
              rows = let s = h.working.rows in omega arith;
              listed = h.working.listed;
            };
            roots = taken_roots;
            deep = let d = h.deep in omega arith;
            spent = let d = h.spent in let g = stand.stand.grows in omega arith;
          }

      -- The call was made.
      module _ {answer₂ : Result Outcome Refusal} {words₂ links₂ : List ℕ} {trees₂ : Rows}
          (c : CallAnswered symbol_rows rule_rows pattern (symbol_of header) (take count slots) (depth + 1) (height + 1) calls before limit
          words₁ links trees answer₂ words₂ links₂ trees₂) where
        abbrev call_of_lem : List Symbol → List Rule → Called
        call_of_lem symbols rules =
            call_of limit symbols rules (128 - depth) (symbol_of header) (values_of words₁ (take count slots))
            (record { calls = calls; words = before })

        said : (size : ℕ) (symbols : List Symbol) (rules : List Rule) → Program symbol_rows rule_rows pattern size symbols rules
            → (reference : ℕ) → PremiseIn symbols pattern size reference → header ≡ cells pattern (reference - pattern_room)
            → Answers (call_of_lem symbols rules) answer₂ words₁ trees words₂ trees₂ before limit calls (suc height)
        said size symbols rules P reference p hd =
            let (x, y) = call_fits symbols size reference p hd slots n in
            let e : 129 - (depth + 1) ≡ 128 - depth = omega arith in
            subst (λ (m : ℕ). Answers (call_of_lem symbols rules) answer₂ words₁ trees words₂ trees₂ before limit calls m) (add-one height)
            (subst (λ (k : ℕ). Answers (call_of limit symbols rules k (symbol_of header) (values_of words₁ (take count slots))
            (record { calls = calls; words = before })) answer₂ words₁ trees words₂ trees₂ before limit calls (height + 1)) e
            (c.says size symbols rules P x y))

        pub call_failed : (refusal : Refusal) → answer₂ ≡ Err refusal
            → PremiseAnswered symbol_rows rule_rows pattern header first depth height calls used limit environment words links trees
            (Err refusal) environment words₂ links₂ trees₂
        call_failed refusal q₂ = record {
          says = λ size symbols rules P reference p hd ft β b.
              subst (λ (x : Walked). Steps x (Err refusal) words trees words₂ environment trees₂ used limit calls height)
              (sym (step_at_lem p limit (call_of limit symbols rules (128 - depth)) header first count β calls used hd ft refl))
              (call_stop limit pattern (call_of limit symbols rules (128 - depth)) header first count β calls used environment words
              trees height words₁ slots before room (found_arguments β b) refusal words₂ environment trees₂
              (subst (λ (x : Result Outcome Refusal). Answers (call_of_lem symbols rules) x words₁ trees words₂ trees₂ before limit calls (suc height)) q₂
              (said size symbols rules P reference p hd)));
          forms = refused_forms pattern refusal words words₂ used;
          spends = refused_spent refusal calls used;
          kept = c.kept ∙ a.kept;
          keeps = refl;
          restored = c.restored;
        }

        module _ (value made after : ℕ) (q₂ : answer₂ ≡ outcome value made after) where
          found_call : (size : ℕ) (symbols : List Symbol) (rules : List Rule) → Program symbol_rows rule_rows pattern size symbols rules → (reference : ℕ)
              → PremiseIn symbols pattern size reference → header ≡ cells pattern (reference - pattern_room)
              → Returned words₁ trees words₂ trees₂ before limit calls (suc height) (call_of_lem symbols rules) value made after
          found_call size symbols rules P reference p hd =
              call_returned words₁ trees words₂ trees₂ before limit calls (suc height) (call_of_lem symbols rules) value made after
              (subst (λ (x : Result Outcome Refusal). Answers (call_of_lem symbols rules) x words₁ trees words₂ trees₂ before limit calls (suc height)) q₂
              (said size symbols rules P reference p hd))

          abbrev returns : Returned words₁ trees words₂ trees₂ before limit calls (suc height)
              (call_of_lem h.symbols h.rules) value made after
          returns = found_call h.size h.symbols h.rules h.program h.reference h.premise h.header_is

          grown : (β : Bindings) → Holds environment words used β → Holds environment words₂ after β
          grown β b =
              holds_grown β stand.stand.stored returns.stands.same returns.stands.grows
              (holds_grown β h.working.stored stand.stand.same stand.stand.grows b)

          pub last_inside : (first + count < length pattern) × (first + count < headers)
          last_inside = let s = sizes in let x = s.some_inputs in let y = s.inside in let z = s.low in (omega arith, omega arith)

          pub bind_asked : (stack₂ : Rows) → length stack₂ ≡ length stack → BindAsked pattern (cells pattern (first + count)) words₂ after value environment links₂ stack₂
          bind_asked stack₂ m =
              let s = sizes in let x = s.some_inputs in
              let i : PatternIn pattern h.size (cells pattern (first + count)) rule_words =
              rw h.first_is (argument_in h.premise count (let e : cells pattern (h.reference - pattern_room) % 32 ≡ header % 32 = ap (λ (k : ℕ). k % 32) (sym h.header_is) in omega arith)) in
              record {
                size = h.size;
                patterned = record {
                  within = i.within;
                  low = i.low;
                  formed = i.formed;
                  root = i.root;
                  small = let y = i.small in let w = h.working.rows in omega arith;
                };
                lent = record {
                  stored = returns.stands.stored;
                  root = returns.stands.root;
                  long = h.long;
                  known = (h.known.0, grown h.known.0 h.known.1);
                  linked = record {
                    long = (let y = h.working.linked.long in let w = returns.stands.within in let e : length links₂ ≡ length links = ap length c.restored in omega arith);
                    clear = λ k. ap (λ (l : List ℕ). cells l k) c.restored ∙ h.working.linked.clear k;
                  };
                };
              }

          module _ {fits : Bool} {environment' links' : List ℕ}
              (b : Matched (pattern_at pattern (cells pattern (first + count))) words₂ after value environment links₂ fits environment' links') where
            pub result_failed : fits ≡ false
                → PremiseAnswered symbol_rows rule_rows pattern header first depth height calls used limit environment words links trees
                (Err Inconsistent) environment' words₂ links' trees₂
            result_failed e = record {
              says = λ size symbols rules P reference p hd ft β k.
                  subst (λ (x : Walked). Steps x (Err Inconsistent) words trees words₂ environment' trees₂ used limit calls height)
                  (sym (step_at_lem p limit (call_of limit symbols rules (128 - depth)) header first count β calls used hd ft refl))
                  (result_stop limit pattern (call_of limit symbols rules (128 - depth)) header first count β calls used environment words
                  trees height words₁ slots before room (found_arguments β k) words₂ trees₂ value made after
                  (found_call size symbols rules P reference p hd) environment' (rw e at (b.says β (grown β k))));
              forms = refused_forms pattern Inconsistent words words₂ used;
              spends = refused_spent Inconsistent calls used;
              kept = c.kept ∙ a.kept;
              keeps = b.kept;
              restored = b.restored ∙ c.restored;
            }

            pub result_fitted : fits ≡ true
                → PremiseAnswered symbol_rows rule_rows pattern header first depth height calls used limit environment words links trees
                (outcome value made after) environment' words₂ links' trees₂
            result_fitted e = record {
              says = λ size symbols rules P reference p hd ft β k.
                  subst (λ (x : Walked). Steps x (outcome value made after) words trees words₂ environment' trees₂ used limit calls height)
                  (sym (step_at_lem p limit (call_of limit symbols rules (128 - depth)) header first count β calls used hd ft refl))
                  (result_fits limit pattern (call_of limit symbols rules (128 - depth)) header first count β calls used environment words
                  trees height words₁ slots before room (found_arguments β k) words₂ trees₂ value made after
                  (found_call size symbols rules P reference p hd) environment' (rw e at (b.says β (grown β k))));
              forms = answer_forms pattern value made after words words₂ used
                  (λ arities d f. c.forms arities d (a.forms arities d f before q) value made after q₂);
              spends = answer_spent value made after calls used
                  (let d = c.spends value made after q₂ in let g = stand.stand.grows in omega arith);
              kept = c.kept ∙ a.kept;
              keeps = b.kept;
              restored = b.restored ∙ c.restored;
            }
