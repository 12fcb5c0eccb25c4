-- Lines after lines: one more row, letter or round is written.
use Rattle.std.proofs.Common.{◌≡◌, ℕ, suc, ◌+◌, ◌<◌, Bool, List, [], ◌∷◌, ◌++◌, sym, ap, ◌∙◌, append_assoc, append-nil, map, flat_map, length, take, get_or, arith, Option}
use Rattle.std.specs.Prelude.{filter, ◌==◌}
use Rattle.std.proofs.lemmas.List.{take_more, length-take-le}
use Rattle.std.proofs.lemmas.Grind.{flat_map-append}
use Rattle.board.specs.Board.{Access}
use Rattle.round.specs.Letters.{Letter}
use Rattle.trace.specs.Sinks.{Wrote, WroteBut}
use Rattle.trace.specs.Text.{Word, Line, further, text, access_line, row_lines, author_line, letter_lines, steps_of, rounds_told}
use Rattle.trace.specs.Lines.{round_line, round_told, row_line}
use Rattle.trace.proofs.WrittenLemmas.{further-append, then_wrote, wrote-same}
use Rattle.trace.proofs.LineLemmas.{text-append}

-- Lines are written after other lines.
pub then_lines : {a b c : Option (List ℕ)} {f g h : Bool} (ls ks all : List Line) → all ≡ ls ++ ks → Wrote a f (text ls) b g → Wrote b g (text ks) c h → Wrote a f (text all) c h
then_lines ls ks all e v w = wrote-same _ _ (sym (ap text e ∙ text-append ls ks)) (then_wrote v w)

-- Lines are written after other lines, of which the end is still in a buffer.
pub then_kept : {a b c : Option (List ℕ)} {f g h : Bool} {kept left : List ℕ} (ls ks all : List Line) → all ≡ ls ++ ks → WroteBut a f (text ls) b g kept → WroteBut b g (kept ++ text ks) c h left → WroteBut a f (text all) c h left
then_kept {a} {b} {c} {f} {g} {h} {kept} {left} ls ks all e v w = (
  v.0 ++ w.0,
  then_wrote v.1 w.1,
  append_assoc v.0 w.0 left ∙ ap (λ t. v.0 ++ t) w.2 ∙ sym (append_assoc v.0 kept (text ks)) ∙ ap (λ t. t ++ text ks) v.2 ∙ sym (ap text e ∙ text-append ls ks),
)

-- One more row is written.
more_rows : (rank : ℕ) (rows : List (List (Option ℕ))) (row : List (Option ℕ)) → row_lines rank (rows ++ row ∷ []) ≡ row_lines rank rows ++ row_line (rank + length rows) row ∷ []
more_rows rank [] row = ap (λ r. row_line r row ∷ []) (omega arith)
more_rows rank (x ∷ rows) row = ap (λ ls. row_line rank x ∷ ls) (more_rows (suc rank) rows row ∙ ap (λ r. row_lines (suc rank) rows ++ row_line r row ∷ []) (omega arith))

pub rows_more : (rows : List (List (Option ℕ))) (i : ℕ) (d : List (Option ℕ)) → i < length rows → row_lines 0 (take (i + 1) rows) ≡ row_lines 0 (take i rows) ++ row_line i (get_or rows i d) ∷ []
rows_more rows i d lt =
    ap (row_lines 0) (take_more rows i d lt) ∙ more_rows 0 (take i rows) (get_or rows i d)
    ∙ ap (λ r. row_lines 0 (take i rows) ++ row_line r (get_or rows i d) ∷ []) (let e : length (take i rows) ≡ i = length-take-le i rows (omega arith) in let z : 0 + length (take i rows) ≡ i = omega arith in z)

-- One more element of a list is written.
pub told_at : {X Y : Type 0} (told : X → List Y) (xs : List X) (i : ℕ) (d : X) → i < length xs → flat_map told (take (i + 1) xs) ≡ flat_map told (take i xs) ++ told (get_or xs i d)
told_at {X} {Y} told xs i d lt =
    ap (flat_map told) (take_more xs i d lt) ∙ flat_map-append told (take i xs) (get_or xs i d ∷ []) ∙ ap (λ ls. flat_map told (take i xs) ++ ls) (append-nil (told (get_or xs i d)))

pub told_more : {X Y : Type 0} (told : X → List Y) (xs : List X) (i : ℕ) (x : X) → i < length xs → x ≡ get_or xs i x → flat_map told (take (i + 1) xs) ≡ flat_map told (take i xs) ++ told x
told_more {X} {Y} told xs i x lt is = told_at told xs i x lt ∙ ap (λ y. flat_map told (take i xs) ++ told y) (sym is)

-- One more round is written.
more_rounds : (told : ℕ → Letter → List Line) (xs : List Access) (r : ℕ) (rounds : List (List Letter)) (letters : List Letter)
    → rounds_told told xs r (rounds ++ letters ∷ []) ≡ rounds_told told xs r rounds ++ round_told (told (r + length rounds)) (r + length rounds) xs letters
more_rounds told xs r [] letters =
    ap (λ ls. round_line r ∷ (map access_line (filter (λ a. a.round == r) xs) ++ ls)) (append-nil (flat_map (told r) letters))
    ∙ ap (λ k. round_told (told k) k xs letters) (let e : r ≡ r + 0 = omega arith in e)
more_rounds told xs r (first ∷ rounds) letters =
    let mine = map access_line (filter (λ a. a.round == r) xs) in
    let here = flat_map (told r) first in
    let behind = rounds_told told xs (suc r) rounds in
    let k : ℕ = r + length (first ∷ rounds) in
    let last = round_told (told k) k xs letters in
    let e : rounds_told told xs (suc r) (rounds ++ letters ∷ []) ≡ behind ++ last =
    more_rounds told xs (suc r) rounds letters ∙ ap (λ j. behind ++ round_told (told j) j xs letters) (omega arith) in
    ap (λ ls. round_line r ∷ ls)
    (ap (λ ls. mine ++ (here ++ ls)) e ∙ ap (λ ls. mine ++ ls) (sym (append_assoc here behind last)) ∙ sym (append_assoc mine (here ++ behind) last))

pub rounds_more : (told : ℕ → Letter → List Line) (xs : List Access) (rounds : List (List Letter)) (i : ℕ) (d : List Letter) → i < length rounds
    → rounds_told told xs 1 (take (i + 1) rounds) ≡ rounds_told told xs 1 (take i rounds) ++ round_told (told (i + 1)) (i + 1) xs (get_or rounds i d)
rounds_more told xs rounds i d lt =
    ap (rounds_told told xs 1) (take_more rounds i d lt) ∙ more_rounds told xs 1 (take i rounds) (get_or rounds i d)
    ∙ ap (λ k. rounds_told told xs 1 (take i rounds) ++ round_told (told k) k xs (get_or rounds i d)) (let e = length-take-le i rounds (omega arith) in omega arith)

-- The first two lines are made from their parts.
pub head_parts : (v w : Word) (ws fs : List Word) → (((v ++ 10 ∷ []) ++ (w ++ further ws)) ++ further fs) ++ 10 ∷ [] ≡ v ++ 10 ∷ ((w ++ further (ws ++ fs)) ++ 10 ∷ [])
head_parts v w ws fs = rw (further-append ws fs) (simp append_assoc)

-- The lines of a chronicle are made from their parts.
pub chronicle_parts : (xs ys zs ws : List Line) → ((text xs ++ text ys) ++ text zs) ++ text ws ≡ text (xs ++ (ys ++ (zs ++ ws)))
chronicle_parts xs ys zs ws = rw (text-append xs (ys ++ (zs ++ ws)), text-append ys (zs ++ ws), text-append zs ws) (simp append_assoc)

-- The lines of a round are made from their parts.
pub round_parts : (told : Letter → List Line) (r : ℕ) (xs : List Access) (letters : List Letter)
    → (text (round_line r ∷ []) ++ text (map access_line (filter (λ a. a.round == r) xs))) ++ text (flat_map told letters) ≡ text (round_told told r xs letters)
round_parts told r xs letters =
    ap (λ t. t ++ text (flat_map told letters)) (sym (text-append (round_line r ∷ []) (map access_line (filter (λ a. a.round == r) xs))))
    ∙ sym (text-append (round_line r ∷ map access_line (filter (λ a. a.round == r) xs)) (flat_map told letters))

-- The lines of a letter are made from their parts.
pub letter_parts : (l : Letter) (g : ℕ) (o : Option ℕ) (rows : List (List (Option ℕ))) → g ≡ l.general → o ≡ steps_of l → rows ≡ l.outbox.rows
    → text (author_line g o ∷ []) ++ text (row_lines 0 rows) ≡ text (letter_lines l)
letter_parts l g o rows eg eo er =
    (λ i. text (author_line (eg i) (eo i) ∷ []) ++ text (row_lines 0 (er i)))
    ∙ sym (text-append (author_line l.general (steps_of l) ∷ []) (row_lines 0 l.outbox.rows))
