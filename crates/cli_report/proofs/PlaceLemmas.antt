-- Marked parts are within the text.
use Rattle.std.proofs.Common.{ℕ, suc, ◌≡◌, ◌+◌, ◌-◌, ◌≤◌, ◌⊎◌, ◌==◌, ◌&&◌, inl, inr, List, [], ◌∷◌, Bool, true, false, cond, arith, codes, refl, subst}
use Rattle.std.specs.Prelude.{Option, None, Some, IfSome, option_map, slice_get}
use Rattle.text.specs.Parts.{lines_of}
use Rattle.cli_report.specs.Keys.{Found, begins_with, entry_line, found, found_on, header, or_else, shown_at, table_at}
use Rattle.cli_report.specs.Laws.{IsInText}
use Rattle.cli_report.specs.Lines.{line_at, marked, trimmed}
use Rattle.cli_report.specs.Report.{Mark}

-- A part of a line.
pub marked-in : (text line : List ℕ) (number before size : ℕ) → line_at text number ≡ Some line → IsInText text (marked number (trimmed line) before size)
marked-in text line number before size is = record { line = rw is refl; part = omega arith }

-- ---- a line that was found

here_or : {A : Type 0} (b : Bool) (here : A) (rest : Option A) (f : A) → cond b (Some here) rest ≡ Some f → (here ≡ f) ⊎ (rest ≡ Some f)
here_or true here rest f is = inl cc
here_or false here rest f is = inr is

line_found : (sought : ℕ) (word : List ℕ) (tables number : ℕ) (lines : List (List ℕ)) (f : Found) → found_on sought word tables number lines ≡ Some f
    → (number ≤ f.number) × (slice_get lines (f.number - number) ≡ Some f.line)
line_found sought word tables number [] f is = absurd cc
line_found sought word tables number (line ∷ lines) f is =
    let here : Found = record { number = number; line = line; tables = sought } in
    elim (here_or (table_at tables line == sought && begins_with word line) here (found_on sought word (table_at tables line) (number + 1) lines) f is) as (λ _. (number ≤ f.number) × (slice_get (line ∷ lines) (f.number - number) ≡ Some f.line)) [
      | inl e ↦
          let z : number - number ≡ 0 = omega arith in
          subst (λ (g : Found). (number ≤ g.number) × (slice_get (line ∷ lines) (g.number - number) ≡ Some g.line)) e (omega arith, rw z refl)
      | inr r ↦
          let h = line_found sought word (table_at tables line) (number + 1) lines f r in
          let le : number + 1 ≤ f.number = h.0 in
          let s : f.number - number ≡ suc (f.number - (number + 1)) = omega arith in
          (omega arith, rw s h.1)
    ]

pub found-at : (sought : ℕ) (word text : List ℕ) (f : Found) → found sought word text ≡ Some f → line_at text f.number ≡ Some f.line
unfolding found
found-at sought word text f is = (line_found sought word 0 1 (lines_of text) f is).1

-- ---- the word or the value in it

if-in : (text : List ℕ) (b : Bool) (m n : Mark) → IsInText text m → IsInText text n → IsInText text (cond b m n)
if-in text true m n i j = i
if-in text false m n i j = j

pub shown-in : (text : List ℕ) (by_value : Bool) (word : List ℕ) (f : Found) → line_at text f.number ≡ Some f.line → IsInText text (shown_at by_value word f)
shown-in text by_value word f is =
    if-in text (begins_with word f.line) _ _
    (if-in text by_value _ _ (marked-in text f.line f.number _ _ is) (marked-in text f.line f.number _ _ is))
    (marked-in text f.line f.number _ _ is)

pub found-in : (text : List ℕ) (by_value : Bool) (word : List ℕ) (o : Option Found) → ((f : Found) → o ≡ Some f → line_at text f.number ≡ Some f.line)
    → IfSome (option_map (shown_at by_value word) o) (IsInText text)
found-in text by_value word None at = tt
found-in text by_value word (Some f) at = shown-in text by_value word f (at f refl)

-- One line or the other.
pub or-at : (text : List ℕ) (o p : Option Found) → ((f : Found) → o ≡ Some f → line_at text f.number ≡ Some f.line) → ((f : Found) → p ≡ Some f → line_at text f.number ≡ Some f.line)
    → (f : Found) → or_else o p ≡ Some f → line_at text f.number ≡ Some f.line
or-at text None p h k f is = k f is
or-at text (Some g) p h k f is = h f is

pub entry-at : (index : ℕ) (word text : List ℕ) (f : Found) → entry_line index word text ≡ Some f → line_at text f.number ≡ Some f.line
entry-at index word text f is =
    or-at text (found (index + 1) word text) _ (found-at (index + 1) word text)
    (or-at text (found (index + 1) header text) _ (found-at (index + 1) header text) (found-at 0 (codes "traitor") text)) f is
