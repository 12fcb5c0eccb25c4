-- Proves that sections take no more than the page's room, and that no section is replaced if there is room for it.
use Rattle.std.proofs.Common.{ℕ, suc, ◌+◌, ◌-◌, ◌≤◌, ◌<◌, ◌≡◌, List, [], ◌∷◌, ◌++◌, length, length-append, refl, sym, ap, subst, ◌∙◌, arith, append_assoc, append-nil, true, false, inl, inr, ◌⊎◌}
use Rattle.std.specs.Prelude.{nat_le, if◌then◌else◌}
use Rattle.std.specs.List.{AllByRecursion}
use Rattle.std.proofs.lemmas.Bool.{cond-true, cond_both, le-leb, leb-false, leb-true}
use Rattle.std.proofs.lemmas.List.Elements.{recursion_from_All}
use Rattle.html.specs.Grammar.{IsContent, joined, no_text, text}
use Rattle.html.specs.Page.{heading}
use Rattle.html.specs.Laws.{IsFilled, IsRoomy, IsToldOrTooLong, SectionsAreFitted, StandsIn}
use Rattle.html.specs.Sections.{Section, all_sections, bytes_of, fitted_sections, heading_bytes, left_by, more, rooms, section, sections_in, standing, standing_in, sure, titled, told_bytes}
use Rattle.html.proofs.PageLaws.{proved_parts_are_content}

-- Facts about one section.

sure_told : (s : Section) → length s.told ≤ s.room → sure s ≡ s.told
sure_told s short = cond-true (nat_le (length s.told) s.room) s.told s.instead (le-leb (length s.told) s.room short)

sure_short : (s : Section) → IsRoomy s → length (sure s) ≤ s.room
sure_short s is = cond_both (nat_le (length s.told) s.room) s.told s.instead (λ xs. length xs ≤ s.room) (λ e. leb-true (length s.told) s.room e) (λ _. is)

sure_least : (s : Section) → IsRoomy s → length (sure s) ≤ length s.told
sure_least s is =
    cond_both (nat_le (length s.told) s.room) s.told s.instead (λ xs. length xs ≤ length s.told) (λ _. omega arith)
    (λ e. let long = leb-false (length s.told) s.room e in omega arith)

section_short : (title told : List ℕ) → length (section title told) ≤ length (heading title) + length told
section_short title [] = omega arith
section_short title (c ∷ cs) = omega (arith, length-append (heading title) (c ∷ cs))

-- ---- the length of the sections

sure_bytes : List Section → ℕ
sure_bytes [] = 0
sure_bytes (s ∷ ss) = length (sure s) + sure_bytes ss

more_bytes : List Section → ℕ
more_bytes [] = 0
more_bytes (s ∷ ss) = more s + more_bytes ss

left_is : (room : ℕ) (ss : List Section) → left_by room ss ≡ room - sure_bytes ss
unfolding sure_bytes
left_is room [] = omega arith
left_is room (s ∷ ss) = let rest = left_is (room - length (sure s)) ss in omega arith

sure_roomy : (ss : List Section) → AllByRecursion IsRoomy ss → sure_bytes ss ≤ rooms ss
unfolding sure_bytes
sure_roomy [] each = omega arith
sure_roomy (s ∷ ss) each = let own = sure_short s each.0 in let rest = sure_roomy ss each.1 in omega arith

told_is : (ss : List Section) → AllByRecursion IsRoomy ss → more_bytes ss + sure_bytes ss ≡ told_bytes ss
unfolding sure_bytes more_bytes
told_is [] each = omega arith
told_is (s ∷ ss) each = let own = sure_least s each.0 in let rest = told_is ss each.1 in omega arith

fitted_short : (left : ℕ) (ss : List Section) → length (fitted_sections left ss) ≤ left + sure_bytes ss + heading_bytes ss
unfolding sure_bytes
fitted_short left [] = omega arith
fitted_short left (s ∷ ss) =
    cond_both (nat_le (more s) left) (s.told ∷ standing (left - more s) ss) (s.instead ∷ standing left ss)
    (λ texts. length (titled (s ∷ ss) texts) ≤ left + (length (sure s) + sure_bytes ss) + (length (heading s.title) + heading_bytes ss))
    (λ e.
    let one = section_short s.title s.told in
    let low = leb-true (more s) left e in
    let rest = fitted_short (left - more s) ss in
    omega (arith, length-append (section s.title s.told) (fitted_sections (left - more s) ss)))
    (λ e.
    let one = section_short s.title s.instead in
    let long = instead_short s (more s) left (leb-false (more s) left e) refl in
    let rest = fitted_short left ss in
    omega (arith, length-append (section s.title s.instead) (fitted_sections left ss)))
  where
    -- If a section has to be replaced, its replacement is not longer than its reserved bytes.
    instead_short : (s : Section) (m left : ℕ) → left < m → m ≡ more s → length s.instead ≤ length (sure s)
    instead_short s m left low e =
        cond_both (nat_le (length s.told) s.room) s.told s.instead (λ xs. m ≡ length s.told - length xs → length s.instead ≤ length xs)
        (λ _ same. absurd (omega arith)) (λ _ _. omega arith) e

short : (room : ℕ) (ss : List Section) → rooms ss ≤ room → AllByRecursion IsRoomy ss → length (sections_in room ss) ≤ room + heading_bytes ss
short room ss low each =
    let all = fitted_short (left_by room ss) ss in
    let left = left_is room ss in
    let sures = sure_roomy ss each in
    omega arith

-- ---- which sections are written in full

-- A section that fits is written in full, and one that does not is replaced.
fits_told : (left : ℕ) (s : Section) (ss : List Section) → more s ≤ left → standing left (s ∷ ss) ≡ s.told ∷ standing (left - more s) ss
fits_told left s ss low = cond-true (nat_le (more s) left) (s.told ∷ standing (left - more s) ss) (s.instead ∷ standing left ss) (le-leb (more s) left low)

all_fitted : (left : ℕ) (ss : List Section) → more_bytes ss ≤ left → fitted_sections left ss ≡ all_sections ss
unfolding more_bytes
all_fitted left [] low = refl
all_fitted left (s ∷ ss) low =
    ap (titled (s ∷ ss)) (fits_told left s ss (omega arith))
    ∙ ap (λ xs. section s.title s.told ++ xs) (all_fitted (left - more s) ss (omega arith))

all_told : (room : ℕ) (ss : List Section) → told_bytes ss ≤ room → AllByRecursion IsRoomy ss → sections_in room ss ≡ all_sections ss
all_told room ss low each =
    let left = left_is room ss in
    let parts = told_is ss each in
    all_fitted (left_by room ss) ss (omega arith)

-- A part of a text is a part of any longer text.
pub behind : (part whole before : List ℕ) → StandsIn part whole → StandsIn part (before ++ whole)
behind part whole before is = (before ++ is.0, is.1, ap (λ v. before ++ v) is.2 ∙ simp append_assoc)

pub ahead : (part whole after : List ℕ) → StandsIn part whole → StandsIn part (whole ++ after)
ahead part whole after is = (is.0, is.1 ++ after, ap (λ v. v ++ after) is.2 ∙ append_assoc (is.0 ++ part) is.1 after)

section_stands : (title told : List ℕ) → StandsIn told (section title told)
section_stands title [] = ([], [], refl)
section_stands title (c ∷ cs) = (heading title, [], sym (append-nil (heading title ++ c ∷ cs)))

own_fitted : (left : ℕ) (before : List Section) (s : Section) (after : List Section) → length s.told ≤ s.room → StandsIn s.told (fitted_sections left (before ++ s ∷ after))
own_fitted left [] s after low =
    let sure_is : length (sure s) ≡ length s.told = ap length (sure_told s low) in
    subst (StandsIn s.told)
    (sym (ap (titled (s ∷ after)) (fits_told left s after (omega arith))))
    (ahead s.told (section s.title s.told) (fitted_sections (left - more s) after) (section_stands s.title s.told))
own_fitted left (b ∷ before) s after low =
    cond_both (nat_le (more b) left) (b.told ∷ standing (left - more b) (before ++ s ∷ after)) (b.instead ∷ standing left (before ++ s ∷ after))
    (λ texts. StandsIn s.told (titled (b ∷ (before ++ s ∷ after)) texts))
    (λ _. behind s.told (fitted_sections (left - more b) (before ++ s ∷ after)) (section b.title b.told) (own_fitted (left - more b) before s after low))
    (λ _. behind s.told (fitted_sections left (before ++ s ∷ after)) (section b.title b.instead) (own_fitted left before s after low))

one_stands : (left : ℕ) (before : List Section) (s : Section) (after : List Section)
    → StandsIn s.told (fitted_sections left (before ++ s ∷ after)) ⊎ StandsIn s.instead (fitted_sections left (before ++ s ∷ after))
one_stands left [] s after =
    cond_both (nat_le (more s) left) (s.told ∷ standing (left - more s) after) (s.instead ∷ standing left after)
    (λ texts. StandsIn s.told (titled (s ∷ after) texts) ⊎ StandsIn s.instead (titled (s ∷ after) texts))
    (λ _. inl (ahead s.told (section s.title s.told) (fitted_sections (left - more s) after) (section_stands s.title s.told)))
    (λ _. inr (ahead s.instead (section s.title s.instead) (fitted_sections left after) (section_stands s.title s.instead)))
one_stands left (b ∷ before) s after =
    let rest : List Section = before ++ s ∷ after in
    cond_both (nat_le (more b) left) (b.told ∷ standing (left - more b) rest) (b.instead ∷ standing left rest)
    (λ texts. StandsIn s.told (titled (b ∷ rest) texts) ⊎ StandsIn s.instead (titled (b ∷ rest) texts))
    (λ _. further s (section b.title b.told) (fitted_sections (left - more b) rest) (one_stands (left - more b) before s after))
    (λ _. further s (section b.title b.instead) (fitted_sections left rest) (one_stands left before s after))
  where
    further : (s : Section) (first rest : List ℕ) → StandsIn s.told rest ⊎ StandsIn s.instead rest → StandsIn s.told (first ++ rest) ⊎ StandsIn s.instead (first ++ rest)
    further s first rest is = elim is [ inl told ↦ inl (behind s.told rest first told) | inr other ↦ inr (behind s.instead rest first other) ]

-- ---- which sections are replaced

-- For a section that needs more than its own room, this room is reserved for its replacement.
sure_instead : (s : Section) → 0 < more s → sure s ≡ s.instead
sure_instead s needs =
    cond_both (nat_le (length s.told) s.room) s.told s.instead (λ xs. 0 < length s.told - length xs → xs ≡ s.instead) (λ _ none. absurd (omega arith)) (λ _ _. refl) needs

-- What is written takes at least the reserved bytes.
standing_least : (left : ℕ) (ss : List Section) → AllByRecursion IsRoomy ss → sure_bytes ss ≤ bytes_of (standing left ss)
unfolding sure_bytes
standing_least left [] each = omega arith
standing_least left (s ∷ ss) each =
    cond_both (nat_le (more s) left) (s.told ∷ standing (left - more s) ss) (s.instead ∷ standing left ss) (λ texts. length (sure s) + sure_bytes ss ≤ bytes_of texts)
    (λ _.
    let own = sure_least s each.0 in
    let rest = standing_least (left - more s) ss each.1 in
    omega arith)
    (λ e.
    let long = leb-false (more s) left e in
    let own : length (sure s) ≡ length s.instead = ap length (sure_instead s (omega arith)) in
    let rest = standing_least left ss each.1 in
    omega arith)

-- A section is replaced only if its text is longer than the bytes that remain for it.
abbrev IsLeftOut : ℕ → List Section → Section → List Section → List (List ℕ) → Type 0
IsLeftOut room before s after texts =
    (ahead : List (List ℕ)) × (own : List ℕ) × (behind : List (List ℕ)) × (length ahead ≡ length before) × (texts ≡ ahead ++ own ∷ behind) × IsToldOrTooLong room s ahead own behind

one_more : (room least : ℕ) (before : List Section) (b s : Section) (after : List Section) (first : List ℕ) (texts : List (List ℕ)) → least ≤ length first
    → IsLeftOut room before s after texts → IsLeftOut (room + least) (b ∷ before) s after (first ∷ texts)
one_more room least before b s after first texts low is = (
  first ∷ is.0,
  is.1,
  is.2,
  ap suc is.3,
  ap (λ (xs : List (List ℕ)). first ∷ xs) is.4,
  elim is.5 [ inl told ↦ inl told | inr long ↦ inr (long.0, (let large = long.1 in omega arith)) ],
)

left_out : (left : ℕ) (before : List Section) (s : Section) (after : List Section) → AllByRecursion IsRoomy (before ++ s ∷ after)
    → IsLeftOut (left + sure_bytes (before ++ s ∷ after)) before s after (standing left (before ++ s ∷ after))
unfolding sure_bytes
left_out left [] s after each =
    cond_both (nat_le (more s) left) (s.told ∷ standing (left - more s) after) (s.instead ∷ standing left after)
    (λ texts. IsLeftOut (left + (length (sure s) + sure_bytes after)) [] s after texts)
    (λ _. ([], s.told, standing (left - more s) after, refl, refl, inl refl))
    (λ e.
    let long = leb-false (more s) left e in
    let rest = standing_least left after each.1 in
    ([], s.instead, standing left after, refl, refl, inr (refl, omega arith)))
left_out left (b ∷ before) s after each =
    let rest : List Section = before ++ s ∷ after in
    cond_both (nat_le (more b) left) (b.told ∷ standing (left - more b) rest) (b.instead ∷ standing left rest)
    (λ texts. IsLeftOut (left + (length (sure b) + sure_bytes rest)) (b ∷ before) s after texts)
    (λ e.
    let low = leb-true (more b) left e in
    let own = sure_least b each.0 in
    subst (λ (room : ℕ). IsLeftOut room (b ∷ before) s after (b.told ∷ standing (left - more b) rest)) (omega arith)
    (one_more (left - more b + sure_bytes rest) (length b.told) before b s after b.told (standing (left - more b) rest) (omega arith) (left_out (left - more b) before s after each.1)))
    (λ e.
    let long = leb-false (more b) left e in
    let own : length (sure b) ≡ length b.instead = ap length (sure_instead b (omega arith)) in
    subst (λ (room : ℕ). IsLeftOut room (b ∷ before) s after (b.instead ∷ standing left rest)) (omega arith)
    (one_more (left + sure_bytes rest) (length (sure b)) before b s after b.instead (standing left rest) (omega arith) (left_out left before s after each.1)))

in_room : (room : ℕ) (before : List Section) (s : Section) (after : List Section) → AllByRecursion IsRoomy (before ++ s ∷ after)
    → IsLeftOut room before s after (standing_in room (before ++ s ∷ after))
in_room room before s after each =
    let all : List Section = before ++ s ∷ after in
    let is = left_out (left_by room all) before s after each in
    let left = left_is room all in
    (is.0, is.1, is.2, is.3, is.4, elim is.5 [ inl told ↦ inl told | inr long ↦ inr (long.0, (let large = long.1 in omega arith)) ])

-- ---- the sections are well-formed content

section_content : (title told : List ℕ) → IsContent told → IsContent (section title told)
section_content title [] c = text [] no_text
section_content title (x ∷ xs) c = joined (heading title) (x ∷ xs) (proved_parts_are_content.heading title) c

fitted_content : (left : ℕ) (ss : List Section) → AllByRecursion IsFilled ss → IsContent (fitted_sections left ss)
fitted_content left [] each = text [] no_text
fitted_content left (s ∷ ss) each =
    cond_both (nat_le (more s) left) (s.told ∷ standing (left - more s) ss) (s.instead ∷ standing left ss) (λ texts. IsContent (titled (s ∷ ss) texts))
    (λ _. joined (section s.title s.told) (fitted_sections (left - more s) ss) (section_content s.title s.told each.0.0) (fitted_content (left - more s) ss each.1))
    (λ _. joined (section s.title s.instead) (fitted_sections left ss) (section_content s.title s.instead each.0.1) (fitted_content left ss each.1))

pub proved_sections_are_fitted : SectionsAreFitted
proved_sections_are_fitted = record {
  short = λ room ss low each. short room ss low (recursion_from_All IsRoomy ss each);
  own = λ room before s after low. own_fitted (left_by room (before ++ s ∷ after)) before s after low;
  stands = λ room before s after. one_stands (left_by room (before ++ s ∷ after)) before s after;
  left_out = λ room before s after each. in_room room before s after (recursion_from_All IsRoomy (before ++ s ∷ after) each);
  all = λ room ss low each. all_told room ss low (recursion_from_All IsRoomy ss each);
  content = λ room ss each. fitted_content (left_by room ss) ss (recursion_from_All IsFilled ss each);
}
