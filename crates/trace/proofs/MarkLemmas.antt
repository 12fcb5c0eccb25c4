-- What a line says is decided by its first word.
use Rattle.std.proofs.Common.{◌≡◌, ◌≤◌, ◌++◌, ℕ, true, false, List, [], ◌∷◌, length, take, Vec, refl, sym, ap, ◌∙◌, Bool, arith}
use Rattle.std.specs.Borrow.{Bor}
use Rattle.std.specs.Prelude.{Option, None, Some, bytes_eq, codes, if◌then◌else◌}
use Rattle.std.specs.Global.{Global}
use Rattle.std.proofs.lemmas.List.{append_assoc, append-nil, length-map, map-append, take_all, take_at}
use Rattle.world.specs.Playing.{lists_in}
use Rattle.text.specs.declared.stop.Stop.{Stop}
use Rattle.text.specs.Stop.{is_stop, feed, space}
use Rattle.text.specs.Parts.{GivesPieces, pieces, onto_first}
use Rattle.trace.specs.Text.{Line, Word}
use Rattle.trace.specs.Names.{Named, named, with_line}
use Rattle.trace.specs.Marks.{all_names, behind, lines_left, marked}
use Rattle.trace.specs.declared.access_names.Mark.TheVariants.{Round}

-- A text has at least one piece.
pub some_piece : (stop : Stop) (t : List ℕ) → (v : List ℕ) × (vs : List (List ℕ)) × (pieces stop t ≡ v ∷ vs)
some_piece stop [] = ([], [], refl)
some_piece stop (c ∷ cs) = by (is_stop stop c)
  where
    onto : (ps : List (List ℕ)) → (v : List ℕ) × (vs : List (List ℕ)) × (onto_first c ps ≡ v ∷ vs)
    onto [] = (c ∷ [], [], refl)
    onto (p ∷ ps) = (c ∷ p, ps, refl)

    by : (b : Bool) → (v : List ℕ) × (vs : List (List ℕ)) × ((if b then [] ∷ pieces stop cs else onto_first c (pieces stop cs)) ≡ v ∷ vs)
    by true = ([], pieces stop cs, refl)
    by false = onto (pieces stop cs)

-- The line of a round.
pub round_said : (all : List Word) (w t : List ℕ) → all ≡ w ∷ pieces space t → bytes_eq w (codes "round") ≡ true → (rest : Named) → ([], rest.0 ∷ rest.1) ≡ with_line all rest
round_said all w t e is rest =
    let p = some_piece space t in
    let same : all ≡ w ∷ p.0 ∷ p.1 = e ∙ ap (λ ps. w ∷ ps) p.2 in
    rw (same, is) refl

-- The first lists, after which others may come.
pub first_lists : (lists : List (Vec ℕ Global)) (rest all : List (List ℕ)) (most : ℕ) → lists_in lists ++ rest ≡ all → length lists ≡ most → lists_in lists ≡ take most all
first_lists lists rest all most is long =
    sym (take_at (lists_in lists) rest most (length-map lists (λ (v : Vec ℕ Global). v.items) ∙ long)) ∙ ap (take most) is

-- All lists, if there are not too many.
pub few_lists : (lists : List (Vec ℕ Global)) (all : List (List ℕ)) (most : ℕ) → lists_in lists ≡ all → length lists ≤ most → lists_in lists ≡ take most all
few_lists lists all most is few =
    sym (take_all most (lists_in lists) (let e : length (lists_in lists) ≡ length lists = length-map lists (λ (v : Vec ℕ Global). v.items) in omega arith)) ∙ ap (take most) is

-- When a round begins, the names before it are complete.
pub round_begun : (rounds pushed : List (Vec ℕ Global)) (names : Vec ℕ Global) (line : Line) (lines left : List Line) (all : List (List ℕ))
    → pushed ≡ rounds ++ names ∷ [] → left ≡ line ∷ lines → ((rest : Named) → marked Round rest ≡ with_line line rest)
    → lists_in rounds ++ all_names (behind names.items (named left)) ≡ all → lists_in pushed ++ all_names (named lines) ≡ all
round_begun rounds pushed names line lines left all is split begins told =
    let each : Vec ℕ Global → List ℕ = λ v. v.items in
    let later : named left ≡ ([], (named lines).0 ∷ (named lines).1) = ap named split ∙ sym (begins (named lines)) in
    let held : lists_in rounds ++ ((names.items ++ []) ∷ all_names (named lines)) ≡ all = ap (λ (n : Named). lists_in rounds ++ all_names (behind names.items n)) (sym later) ∙ told in
    let front : lists_in pushed ≡ lists_in rounds ++ names.items ∷ [] = ap lists_in is ∙ map-append each rounds (names ∷ []) in
    ap (λ (ls : List (List ℕ)). ls ++ all_names (named lines)) front
    ∙ (append_assoc (lists_in rounds) (names.items ∷ []) (all_names (named lines))
    ∙ (ap (λ (ns : List ℕ). lists_in rounds ++ (ns ∷ all_names (named lines))) (sym (append-nil names.items)) ∙ held))

-- The lines of the remaining text, and the first of them.
pub lines_split : (line : List ℕ) (rest : Option (Bor (List ℕ))) (all : List (List ℕ)) → GivesPieces feed line rest all → all ≡ line ∷ lines_left rest
lines_split line None all gives = gives
lines_split line (Some rest) all gives = gives
