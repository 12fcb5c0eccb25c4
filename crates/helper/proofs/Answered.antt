-- What a call leaves in r0.
use Rattle.std.proofs.Common.{ℕ, zero, suc, ◌+◌, ◌-◌, ◌*◌, ◌^◌, ◌<◌, ◌≤◌, ◌≡◌, Bool, true, false, List, [], ◌∷◌, length, take, drop, refl, sym, ap, ◌∙◌, subst, arith, ltb-true}
use Rattle.std.specs.Prelude.{Result, Ok, Err, ◌==◌, ◌&&◌, nat_lt, nat_le, if◌then◌else◌, slice_index, slice_range, pos, ◌+ℤ◌}
use Rattle.std.specs.List.{list_all}
use Rattle.std.proofs.lemmas.Bool.{and_parts, false≢true}
use Rattle.range.specs.Interval.{IsIn}
use Rattle.semantics.specs.Relay.{IsRelay, Relay}
use Rattle.semantics.specs.declared.value.Value.{Value}
use Rattle.semantics.specs.declared.value.Value.TheVariants.{Unset, Number, Pointer}
use Rattle.semantics.specs.declared.value.Cell.{Cell}
use Rattle.semantics.specs.declared.value.Cell.TheVariants.{Empty, Byte, Piece}
use Rattle.semantics.specs.declared.request.Helper.{Helper}
use Rattle.semantics.specs.declared.request.Helper.TheVariants.{BoardCopy, SendRow}
use Rattle.semantics.specs.declared.request.Request.{Request}
use Rattle.semantics.specs.declared.request.Request.TheVariants.{Copy}
use Rattle.semantics.specs.State.{Cause, Argument, State, Next, Ask, given, value_at}
use Rattle.semantics.specs.Memory.{cells_at, bytes_in, window, region_cells, stack_place}
use Rattle.semantics.specs.Outbox.{Choice, places_set, along_row}
use Rattle.semantics.specs.Entries.{is_entered}
use Rattle.semantics.specs.Call.{told, Effect, Asks, Puts, Enters, IfAsks, effect, done, argument, slot_in, pointer_in, copy_of, orders_at, orders_of, fits, resumed}
use Rattle.semantics.proofs.PlacesLaws.{ranges_kept, most_set}
use Rattle.helper.specs.Results.{HoldsResult, Returns, returned_range}
use Rattle.helper.proofs.Chains.{given_ok, below_ok, ok_same}
use Rattle.helper.proofs.Tests.{copy_in, row_in}

-- ---- the board answers with words
first_word : (words : List ℕ) → ((length words == 1) && list_all (λ word. nat_lt word (2 ^ 64)) words) ≡ true → slice_index words 0 ≤ 2 ^ 64 - 1
first_word [] h = absurd (false≢true h)
first_word (w ∷ words) h =
    let parts = and_parts (length (w ∷ words) == 1) (list_all (λ word. nat_lt word (2 ^ 64)) (w ∷ words)) h in
    let small : w < 2 ^ 64 = ltb-true w (2 ^ 64) (and_parts (nat_lt w (2 ^ 64)) (list_all (λ word. nat_lt word (2 ^ 64)) words) parts.1).0 in
    omega arith

word_held : (words : List ℕ) → ((length words == 1) && list_all (λ word. nat_lt word (2 ^ 64)) words) ≡ true → (n : ℕ) × (Number (slice_index words 0) ≡ Number n) × IsIn 0 (2 ^ 64 - 1) n
word_held words h = (slice_index words 0, refl, (omega arith, first_word words h))

-- Every answer that fits the request is a number in the range.
abbrev Answers : State → ℕ → ℕ → Request → Type 0
Answers waiting lo hi request = (words : List ℕ) → fits request words ≡ true → HoldsResult lo hi (resumed request words waiting)

copy_held : (s waiting : State) (request : Request) → copy_in s ≡ Ok request → Answers waiting 0 64 request
copy_held s waiting request e words fit =
    let a = given_ok (slot_in s) (λ slot. given (pointer_in s 2) (λ to. given (argument s 3 65) (λ count. copy_of slot to count))) request e in
    let b = given_ok (pointer_in s 2) (λ to. given (argument s 3 65) (λ count. copy_of a.0 to count)) request a.2 in
    let d = given_ok (argument s 3 65) (λ count. copy_of a.0 b.0 count) request b.2 in
    let few : d.0 < 65 = below_ok 65 (value_at s.registers 3) d.0 d.1 in
    let is : Copy (a.0, d.0) ≡ request = copied a.0 d.0 b.0 request d.2 in
    subst (λ (q : Request). HoldsResult 0 64 (resumed q words waiting)) is (d.0, refl, (omega arith, omega arith))
  where
    placed : (slot count : ℕ) (place : Result ℕ Cause) (request : Request) → given place (λ p. Ok (Copy (slot, count))) ≡ Ok request → Copy (slot, count) ≡ request
    placed slot count (Ok p) request e = cc
    placed slot count (Err cause) request e = cc

    copied_if : (t : Bool) (slot count : ℕ) (place : Result ℕ Cause) (request : Request) → (if t then given place (λ p. Ok (Copy (slot, count))) else Err Argument) ≡ Ok request → Copy (slot, count) ≡ request
    copied_if true slot count place request e = placed slot count place request e
    copied_if false slot count place request e = cc

    copied : (slot count : ℕ) (to : Value) (request : Request) → copy_of slot to count ≡ Ok request → Copy (slot, count) ≡ request
    copied slot count to request e = copied_if (nat_le (slot + count) 64) slot count (stack_place to (pos 0) (8 * count)) request e

-- ---- orders are set, and counted

-- At most as many orders are read as were asked for.
orders_length : (bytes : List ℕ) → 4 * length (orders_of bytes) ≤ length bytes
orders_length [] = omega arith
orders_length (a ∷ []) = omega arith
orders_length (a ∷ b ∷ []) = omega arith
orders_length (a ∷ b ∷ c ∷ []) = omega arith
orders_length (a ∷ b ∷ c ∷ d ∷ bytes) = omega (arith, orders_length bytes)

bytes_length : (cells : List Cell) (bytes : List ℕ) → bytes_in cells ≡ Ok bytes → length bytes ≡ length cells
bytes_length [] bytes e = let same : [] ≡ bytes = cc in ap length (sym same)
bytes_length (Empty ∷ cells) bytes e = cc
bytes_length (Byte b ∷ cells) bytes e =
    let a = given_ok (bytes_in cells) (λ rest. Ok (b ∷ rest)) bytes e in
    let same : b ∷ a.0 ≡ bytes = cc in
    ap length (sym same) ∙ ap suc (bytes_length cells a.0 a.1)
bytes_length (Piece i region offset ∷ cells) bytes e = cc

cells_length : (context : List ℕ) (stack : List Cell) (from : Value) (size : ℕ) (cells : List Cell) → cells_at context stack from (pos 0) size ≡ Ok cells → length cells ≤ size
cells_length context stack Unset size cells e = cc
cells_length context stack (Number n) size cells e = cc
cells_length context stack (Pointer region offset) size cells e =
    let a = given_ok (window region (offset +ℤ pos 0) size) (λ place. Ok (slice_range (region_cells context stack region) place (place + size))) cells e in
    let same : slice_range (region_cells context stack region) a.0 (a.0 + size) ≡ cells = cc in
    let short : length (slice_range (region_cells context stack region) a.0 (a.0 + size)) ≤ a.0 + size - a.0 = take_few (a.0 + size - a.0) (drop a.0 (region_cells context stack region)) in
    rw (← same) (omega arith)
  where
    take_few : (n : ℕ) (xs : List Cell) → length (take n xs) ≤ n
    take_few zero xs = omega arith
    take_few (suc n) [] = omega arith
    take_few (suc n) (x ∷ xs) = omega (arith, take_few n xs)

orders_few : (context : List ℕ) (s : State) (from : Value) (count : ℕ) (orders : List ℕ) → orders_at context s from count ≡ Ok orders → length orders ≤ count
orders_few context s from count orders e =
    let a = given_ok (cells_at context s.cells from (pos 0) (4 * count)) (λ cells. given (bytes_in cells) (λ bytes. Ok (orders_of bytes))) orders e in
    let b = given_ok (bytes_in a.0) (λ bytes. Ok (orders_of bytes)) orders a.2 in
    let same : orders_of b.0 ≡ orders = cc in
    let size : length a.0 ≤ 4 * count = cells_length context s.cells from (4 * count) a.0 a.1 in
    let bytes : length b.0 ≡ length a.0 = bytes_length a.0 b.0 b.1 in
    let most : 4 * length (orders_of b.0) ≤ length b.0 = orders_length b.0 in
    let is : length (orders_of b.0) ≡ length orders = ap length same in
    omega arith

row_held : (relay : Relay) (context : List ℕ) (s : State) (choice : Choice) → row_in context s ≡ Ok choice → IsIn 0 13 (places_set relay choice)
row_held relay context s choice e =
    let a = given_ok (argument s 1 1016) (λ label. given (pointer_in s 2) (λ from. given (argument s 3 14) (λ count. given (orders_at context s from count) (λ orders. Ok (along_row label orders))))) choice e in
    let b = given_ok (pointer_in s 2) (λ from. given (argument s 3 14) (λ count. given (orders_at context s from count) (λ orders. Ok (along_row a.0 orders)))) choice a.2 in
    let d = given_ok (argument s 3 14) (λ count. given (orders_at context s b.0 count) (λ orders. Ok (along_row a.0 orders))) choice b.2 in
    let o = given_ok (orders_at context s b.0 d.0) (λ orders. Ok (along_row a.0 orders)) choice d.2 in
    let few : d.0 < 14 = below_ok 14 (value_at s.registers 3) d.0 d.1 in
    let many : length o.0 ≤ d.0 = orders_few context s b.0 d.0 o.0 o.1 in
    let is : along_row a.0 o.0 ≡ choice = ok_same (along_row a.0 o.0) choice o.2 in
    subst (λ (q : Choice). IsIn 0 13 (places_set relay q)) is (omega arith, ranges_kept.along relay a.0 o.0 (omega arith))

-- ---- what each helper returns

-- P for the value of a result, if there is one.
abbrev Gives : {A : Type 0} → (A → Type 0) → Result A Cause → Type 0
Gives P (Ok a) = P a
Gives P (Err cause) = Unit {0}

gives_any : {A B : Type 0} (P : B → Type 0) (r : Result A Cause) (f : A → Result B Cause) → ((a : A) → Gives P (f a)) → Gives P (given r f)
gives_any P (Ok a) f h = h a
gives_any P (Err cause) f h = tt

gives_all : {A : Type 0} (P : A → Type 0) (r : Result A Cause) → ((a : A) → r ≡ Ok a → P a) → Gives P r
gives_all P (Ok a) h = h a refl
gives_all P (Err cause) h = tt

up_to : (n hi : ℕ) → n ≤ hi → IsIn 0 hi n
up_to n hi le = (omega arith, le)

one_or_none : (n : ℕ) → IsIn 0 1 (1 - n)
one_or_none n = (omega arith, omega arith)

-- What the board answers is in the range.
answers : (h : Helper) (context : List ℕ) (s : State) → IfAsks (Gives (λ q. (waiting : State) → Answers waiting (returned_range h).0 (returned_range h).1 q)) (effect context s h)
answers BoardCopy context s = gives_all (λ q. (waiting : State) → Answers waiting 0 64 q) (copy_in s) (λ q e waiting. copy_held s waiting q e)
answers h context s = search (gives_any, word_held)

-- So is what is returned at once: the number of orders that are set, or whether an entry is made.
abbrev Tells : Relay → ℕ → ℕ → Effect → Type 0
Tells relay lo hi (Asks request) = Unit {0}
Tells relay lo hi (Puts tells choice) = Gives (λ c. IsIn lo hi (told tells (places_set relay c))) choice
Tells relay lo hi (Enters entry) = IsIn lo hi 0 × IsIn lo hi 1

tells : (h : Helper) (context : List ℕ) (relay : Relay) (s : State) → IsRelay relay → Tells relay (returned_range h).0 (returned_range h).1 (effect context s h)
tells SendRow context relay s is = gives_all (λ c. IsIn 0 13 (places_set relay c)) (row_in context s) (λ choice e. row_held relay context s choice e)
tells h context relay s is = search (gives_any, up_to, one_or_none, most_set, arith)

-- So r0 holds a number in the range.
next_is : (a b : State) → Next a ≡ Next b → b ≡ a
next_is a b e = cc

asked_is : (p q : Request) (a b : State) → Ask p a ≡ Ask q b → p ≡ q
asked_is p q a b e = cc

r0_of : (s after : State) (n : ℕ) → Next s ≡ Next after → value_at s.registers 0 ≡ Number n → value_at after.registers 0 ≡ Number n
r0_of s after n e is = ap (λ (t : State). value_at t.registers 0) (next_is s after e) ∙ is

held_at_once : (relay : Relay) (s after : State) (lo hi : ℕ) (e : Effect) → Tells relay lo hi e → done relay s e ≡ Next after → HoldsResult lo hi after
held_at_once relay s after lo hi (Asks (Ok request)) p e = cc
held_at_once relay s after lo hi (Asks (Err cause)) p e = cc
held_at_once relay s after lo hi (Puts says (Ok choice)) p e = (told says (places_set relay choice), r0_of _ after (told says (places_set relay choice)) e refl, p)
held_at_once relay s after lo hi (Puts says (Err cause)) p e = cc
held_at_once relay s after lo hi (Enters (Ok entry)) p e =
    (if is_entered relay s.entries entry then 0 else 1, r0_of _ after (if is_entered relay s.entries entry then 0 else 1) e refl, bit (is_entered relay s.entries entry))
  where
    bit : (b : Bool) → IsIn lo hi (if b then 0 else 1)
    bit true = p.0
    bit false = p.1
held_at_once relay s after lo hi (Enters (Err cause)) p e = cc

held_answered : (relay : Relay) (s waiting : State) (lo hi : ℕ) (request : Request) (words : List ℕ) (e : Effect) → IfAsks (Gives (λ q. (waiting : State) → Answers waiting lo hi q)) e →
    done relay s e ≡ Ask request waiting → fits request words ≡ true → HoldsResult lo hi (resumed request words waiting)
held_answered relay s waiting lo hi request words (Asks (Ok q)) p e fit =
    subst (λ (r : Request). Answers waiting lo hi r) (asked_is q request _ waiting e) (p waiting) words fit
held_answered relay s waiting lo hi request words (Asks (Err cause)) p e fit = cc
held_answered relay s waiting lo hi request words (Puts says (Ok choice)) p e fit = cc
held_answered relay s waiting lo hi request words (Puts says (Err cause)) p e fit = cc
held_answered relay s waiting lo hi request words (Enters (Ok entry)) p e fit = cc
held_answered relay s waiting lo hi request words (Enters (Err cause)) p e fit = cc

pub calls_return : (h : Helper) → Returns h (returned_range h).0 (returned_range h).1
calls_return h = record {
  at_once = λ context relay s after within e. held_at_once relay s after (returned_range h).0 (returned_range h).1 (effect context s h) (tells h context relay s within) e;
  answered = λ context relay s waiting request words e fit. held_answered relay s waiting (returned_range h).0 (returned_range h).1 request words (effect context s h) (answers h context s) e fit;
}
