-- What a call writes that puts orders at one label only.
use Rattle.std.proofs.Common.{ℕ, zero, suc, ◌+◌, ◌<◌, ◌≤◌, ◌≡◌, ◌≢◌, List, [], ◌∷◌, map, length, get_or, set, refl, ap, arith, None}
use Rattle.std.specs.Prelude.{is_some}
use Rattle.label.specs.declared.shape.Shape.{Shape}
use Rattle.label.specs.Relay.{receivers}
use Rattle.semantics.specs.Outbox.{Choice}
use Rattle.semantics.proofs.PlacesLaws.{row_from, sets, row_none, rows_from, sets_in, sets_in-cons}
use Rattle.outbox.specs.Rows.{RowOrders, receivers_in, orders_in}
use Rattle.outbox.proofs.Writing.{row_written, row_none_written}
use Rattle.outbox.proofs.Whole.{Stand, rows_written, stand_parts}

-- States that the call puts orders only at this label.
abbrev pub OnlyAt : Choice → ℕ → Type 0
OnlyAt choice label = (k b n : ℕ) → k ≢ label → choice (record { rank = k; number = b; receiver = n }) ≡ None

here_none : (choice : Choice) (s : Shape) (label : ℕ) → OnlyAt choice label → (a : ℕ) (row : RowOrders) (w : List ℕ) → receivers_in row ≡ receivers s w → a ≢ label → row_written choice (row_from a 0 (receivers s w)) (orders_in row) ≡ orders_in row
here_none choice s label only a row w e ne = rw (← e) (row_none_written choice a (λ b n. only a b n ne) 0 row)

here_unset : (choice : Choice) (s : Shape) (label : ℕ) → OnlyAt choice label → (a : ℕ) (w : List ℕ) → a ≢ label → sets choice (row_from a 0 (receivers s w)) ≡ 0
here_unset choice s label only a w ne = row_none choice a (λ b n. ap is_some (only a b n ne)) 0 (receivers s w)

-- If the label is none of those of these rows, nothing is written.
pub kept_written : (choice : Choice) (s : Shape) (label : ℕ) → OnlyAt choice label → (a : ℕ) (rows : List RowOrders) (ws : List (List ℕ)) → Stand s rows ws → ((k : ℕ) → a ≤ k → k < a + length rows → k ≢ label) → rows_written choice s a ws (map orders_in rows) ≡ map orders_in rows
kept_written choice s label only a [] [] e out = refl
kept_written choice s label only a [] (w ∷ ws) e out = cc
kept_written choice s label only a (row ∷ rows) [] e out = cc
kept_written choice s label only a (row ∷ rows) (w ∷ ws) e out =
    let parts = stand_parts s row rows w ws e in
    let ne : a ≢ label = out a (omega arith) (omega arith) in
    let rest : rows_written choice s (a + 1) ws (map orders_in rows) ≡ map orders_in rows = kept_written choice s label only (a + 1) rows ws parts.1 (λ k l h. out k (omega arith) (omega arith)) in
    rw (here_none choice s label only a row w parts.0 ne, rest) refl

pub kept_unset : (choice : Choice) (s : Shape) (label : ℕ) → OnlyAt choice label → (a : ℕ) (rows : List RowOrders) (ws : List (List ℕ)) → Stand s rows ws → ((k : ℕ) → a ≤ k → k < a + length rows → k ≢ label) → sets_in choice (rows_from s a ws) ≡ 0
kept_unset choice s label only a [] [] e out = refl
kept_unset choice s label only a [] (w ∷ ws) e out = cc
kept_unset choice s label only a (row ∷ rows) [] e out = cc
kept_unset choice s label only a (row ∷ rows) (w ∷ ws) e out =
    let parts = stand_parts s row rows w ws e in
    let ne : a ≢ label = out a (omega arith) (omega arith) in
    let rest : sets_in choice (rows_from s (a + 1) ws) ≡ 0 = kept_unset choice s label only (a + 1) rows ws parts.1 (λ k l h. out k (omega arith) (omega arith)) in
    rw (sets_in-cons choice (row_from a 0 (receivers s w)) (rows_from s (a + 1) ws), here_unset choice s label only a w ne, rest) refl

-- If the label is the one of row `i`, only this row is written.
pub one_written : (choice : Choice) (s : Shape) (label : ℕ) → OnlyAt choice label → (a i : ℕ) (rows : List RowOrders) (ws : List (List ℕ)) (new : RowOrders) → Stand s rows ws → label ≡ a + i → i < length rows
    → row_written choice (row_from label 0 (receivers_in (get_or rows i []))) (orders_in (get_or rows i [])) ≡ orders_in new → rows_written choice s a ws (map orders_in rows) ≡ map orders_in (set rows i new)
one_written choice s label only a i [] ws new e at l here = absurd (omega arith)
one_written choice s label only a i (row ∷ rows) [] new e at l here = cc
one_written choice s label only a zero (row ∷ rows) (w ∷ ws) new e at l here =
    let parts = stand_parts s row rows w ws e in
    let same : label ≡ a = omega arith in
    let first : row_written choice (row_from a 0 (receivers s w)) (orders_in row) ≡ orders_in new = rw (← parts.0, ← same) here in
    let rest : rows_written choice s (a + 1) ws (map orders_in rows) ≡ map orders_in rows = kept_written choice s label only (a + 1) rows ws parts.1 (λ k m h. λ q. omega arith) in
    rw (first, rest) refl
one_written choice s label only a (suc i) (row ∷ rows) (w ∷ ws) new e at l here =
    let parts = stand_parts s row rows w ws e in
    let ne : a ≢ label = λ q. omega arith in
    let rest : rows_written choice s (a + 1) ws (map orders_in rows) ≡ map orders_in (set rows i new) = one_written choice s label only (a + 1) i rows ws new parts.1 (omega arith) (omega arith) here in
    rw (here_none choice s label only a row w parts.0 ne, rest) refl

pub one_set : (choice : Choice) (s : Shape) (label : ℕ) → OnlyAt choice label → (a i : ℕ) (rows : List RowOrders) (ws : List (List ℕ)) → Stand s rows ws → label ≡ a + i → i < length rows
    → sets_in choice (rows_from s a ws) ≡ sets choice (row_from label 0 (receivers_in (get_or rows i [])))
one_set choice s label only a i [] ws e at l = absurd (omega arith)
one_set choice s label only a i (row ∷ rows) [] e at l = cc
one_set choice s label only a zero (row ∷ rows) (w ∷ ws) e at l =
    let parts = stand_parts s row rows w ws e in
    let same : label ≡ a = omega arith in
    let rest : sets_in choice (rows_from s (a + 1) ws) ≡ 0 = kept_unset choice s label only (a + 1) rows ws parts.1 (λ k m h. λ q. omega arith) in
    let first : sets choice (row_from label 0 (receivers_in row)) ≡ sets choice (row_from a 0 (receivers s w)) = rw (same, parts.0) refl in
    rw (sets_in-cons choice (row_from a 0 (receivers s w)) (rows_from s (a + 1) ws), rest, first) (omega arith)
one_set choice s label only a (suc i) (row ∷ rows) (w ∷ ws) e at l =
    let parts = stand_parts s row rows w ws e in
    let ne : a ≢ label = λ q. omega arith in
    let rest : sets_in choice (rows_from s (a + 1) ws) ≡ sets choice (row_from label 0 (receivers_in (get_or rows i []))) = one_set choice s label only (a + 1) i rows ws parts.1 (omega arith) (omega arith) in
    rw (sets_in-cons choice (row_from a 0 (receivers s w)) (rows_from s (a + 1) ws), here_unset choice s label only a w ne, rest) (omega arith)

-- The receivers of the rows stay the same.
pub set_stands : (s : Shape) (i : ℕ) (rows : List RowOrders) (ws : List (List ℕ)) (new : RowOrders) → Stand s rows ws → (i < length rows → receivers_in new ≡ receivers_in (get_or rows i [])) → Stand s (set rows i new) ws
set_stands s i [] ws new e same = e
set_stands s zero (row ∷ rows) ws new e same =
    let h : receivers_in new ≡ receivers_in row = same (omega arith) in
    rw h e
set_stands s (suc i) (row ∷ rows) [] new e same = cc
set_stands s (suc i) (row ∷ rows) (w ∷ ws) new e same =
    let parts = stand_parts s row rows w ws e in
    let rest : map receivers_in (set rows i new) ≡ map (receivers s) ws = set_stands s i rows ws new parts.1 (λ l. same (omega arith)) in
    rw (parts.0, rest) refl
