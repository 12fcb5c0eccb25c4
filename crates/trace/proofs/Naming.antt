-- The generals named in a chronicle's text are those of its accesses.
use Rattle.std.proofs.Common.{◌≡◌, ◌≢◌, ℕ, zero, suc, ◌+◌, ◌<◌, List, [], ◌∷◌, ◌++◌, length, map, flat_map, Bool, true, false, cond, refl, ap, ◌∙◌, Option, None, Some, append_assoc, append-nil, arith}
use Rattle.std.specs.Prelude.{decimal, filter, bytes_eq, All, ◌==◌, ◌≤◌}
use Rattle.std.specs.List.{list_all}
use Rattle.std.proofs.lemmas.Slice.Eq.{bytes_eq-Decides}
use Rattle.std.specs.Fmt.{digits}
use Rattle.std.specs.List.{range_with_len}
use Rattle.std.proofs.lemmas.Bool.{and_parts}
use Rattle.std.proofs.lemmas.Bool.Decides.{eqb_tells}
use Rattle.std.proofs.Common.{⊎_elim}
use Rattle.label.specs.Labels.{generals}
use Rattle.board.specs.Board.{Access}
use Rattle.round.specs.Scenario.{Scenario, is_traitor}
use Rattle.round.specs.Letters.{Letter}
use Rattle.world.specs.Lists.{names_in}
use Rattle.world.specs.Chronicle.{Chronicle}
use Rattle.label.specs.Lieutenants.{lieutenants}
use Rattle.trace.specs.Text.{Line, access_line, row_lines, author_line, letter_lines, rounds_told, steps_of, decision_line, decision_lines, verdict_line, head_lines, lines_behind, lines_in, text, text_in}
use Rattle.trace.specs.declared.version.Version.{Version}
use Rattle.trace.specs.Names.{general_of, Named, with_line, named, names_of}
use Rattle.trace.proofs.Splitting.{AreLines, text-split}
use Rattle.trace.proofs.Plain.{chronicle_plain}

-- Returns whether the decimal of this number names exactly this general.
is_told : ℕ → Bool
is_told g = bytes_eq (general_of (decimal g)) (g ∷ [])

all_told : list_all is_told (generals 13) ≡ true
unfolding is_told digits
all_told = refl

in-range : (t : ℕ → Bool) (n a g : ℕ) → list_all t (range_with_len a n) ≡ true → a ≤ g → g < a + n → t g ≡ true
in-range t zero a g h le lt = absurd (omega arith)
in-range t (suc n) a g h le lt =
    let b = and_parts (t a) (list_all t (range_with_len (a + 1) n)) h in
    ⊎_elim (λ (x : (g == a ≡ true) × (g ≡ a)). ap t x.1 ∙ b.0)
    (λ (x : (g == a ≡ false) × (g ≢ a)). in-range t n (a + 1) g b.1 (let ne = x.1 in omega arith) (omega arith))
    (eqb_tells g a)

pub general_told : (g : ℕ) → g < 13 → general_of (decimal g) ≡ g ∷ []
unfolding is_told
general_told g lt = (bytes_eq-Decides (general_of (decimal g)) (g ∷ [])).0 (in-range is_told 13 0 g all_told (omega arith) (omega arith))

abbrev pub IsSilent : Line → Type 0
IsSilent l = (rest : Named) → with_line l rest ≡ rest

abbrev pub AreSilent : List Line → Type 0
AreSilent [] = Unit {0}
AreSilent (l ∷ ls) = IsSilent l × AreSilent ls

silent-front : (ls ks : List Line) → AreSilent ls → named (ls ++ ks) ≡ named ks
silent-front [] ks p = refl
silent-front (l ∷ ls) ks p = p.0 (named (ls ++ ks)) ∙ silent-front ls ks p.1

silent-append : (ls ks : List Line) → AreSilent ls → AreSilent ks → AreSilent (ls ++ ks)
silent-append [] ks p q = q
silent-append (l ∷ ls) ks p q = (p.0, silent-append ls ks p.1 q)

-- States that each access is by a general below 13.
abbrev pub AreKnown : List Access → Type 0
AreKnown [] = Unit {0}
AreKnown (a ∷ xs) = (a.general < 13) × AreKnown xs

known-filter : (r : ℕ) (xs : List Access) → AreKnown xs → AreKnown (filter (λ a. a.round == r) xs)
known-filter r [] k = tt
known-filter r (a ∷ rest) k = by (a.round == r) (known-filter r rest k.1)
  where
    by : (b : Bool) → AreKnown (filter (λ a. a.round == r) rest) → AreKnown (cond b (a ∷ filter (λ a. a.round == r) rest) (filter (λ a. a.round == r) rest))
    by true h = (k.0, h)
    by false h = h

accesses-named : (xs : List Access) (ks : List Line) → AreKnown xs → named (map access_line xs ++ ks) ≡ (map (λ a. a.general) xs ++ (named ks).0, (named ks).1)
accesses-named [] ks k = refl
accesses-named (a ∷ rest) ks k =
    (λ i. (general_told a.general k.0 i ++ (accesses-named rest ks k.1 i).0, (accesses-named rest ks k.1 i).1))

rows_silent : (rank : ℕ) (rows : List (List (Option ℕ))) → AreSilent (row_lines rank rows)
rows_silent rank [] = tt
rows_silent rank (row ∷ rows) = ((λ rest. refl), rows_silent (suc rank) rows)

pub author_silent : (g : ℕ) (steps : Option ℕ) → IsSilent (author_line g steps)
author_silent g None = λ rest. refl
author_silent g (Some steps) = λ rest. refl

decision_silent : (g : ℕ) (b : Bool) (d : ℕ) → IsSilent (decision_line g b d)
decision_silent g true d = λ rest. refl
decision_silent g false d = λ rest. refl

letter_silent : (l : Letter) → AreSilent (letter_lines l)
letter_silent l = (author_silent l.general (steps_of l), rows_silent 0 l.outbox.rows)

letters_silent : (told : Letter → List Line) → ((l : Letter) → AreSilent (told l)) → (ls : List Letter) → AreSilent (flat_map told ls)
letters_silent told silent [] = tt
letters_silent told silent (l ∷ ls) = silent-append (told l) (flat_map told ls) (silent l) (letters_silent told silent ls)

decisions_silent : (s : Scenario) (gs ds : List ℕ) → AreSilent (decision_lines s gs ds)
decisions_silent s [] ds = tt
decisions_silent s (g ∷ gs) [] = tt
decisions_silent s (g ∷ gs) (d ∷ ds) = (decision_silent g (is_traitor s g) d, decisions_silent s gs ds)

rounds-named : (told : ℕ → Letter → List Line) → ((r : ℕ) (l : Letter) → AreSilent (told r l)) → (xs : List Access) (r : ℕ) (rounds : List (List Letter)) (ks : List Line) → AreKnown xs → named ks ≡ ([], [])
    → named (rounds_told told xs r rounds ++ ks) ≡ ([], names_in r xs (length rounds))
rounds-named told silent xs r [] ks k e = e
rounds-named told silent xs r (ls ∷ rest) ks k e =
    let here = filter (λ a. a.round == r) xs in
    let behind = rounds_told told xs (suc r) rest in
    let letters = flat_map (told r) ls in
    let shape : (map access_line here ++ (letters ++ behind)) ++ ks ≡ map access_line here ++ (letters ++ (behind ++ ks)) =
    append_assoc (map access_line here) (letters ++ behind) ks ∙ ap (λ l. map access_line here ++ l) (append_assoc letters behind ks) in
    let inner : named ((map access_line here ++ (letters ++ behind)) ++ ks) ≡ (map (λ a. a.general) here, names_in (suc r) xs (length rest)) =
    ap named shape
    ∙ accesses-named here (letters ++ (behind ++ ks)) (known-filter r xs k)
    ∙ (let q : named (letters ++ (behind ++ ks)) ≡ ([], names_in (suc r) xs (length rest)) = silent-front letters (behind ++ ks) (letters_silent (told r) (silent r) ls) ∙ rounds-named told silent xs (suc r) rest ks k e in
    (λ i. (map (λ a. a.general) here ++ (q i).0, (q i).1)))
    ∙ (λ i. (append-nil (map (λ a. a.general) here) i, names_in (suc r) xs (length rest))) in
    (λ i. ([], (inner i).0 ∷ (inner i).1))

-- If the first lines and the letters' lines name nobody, the text names exactly the generals who made the accesses.
pub lines_named : (head : List Line) (told : ℕ → Letter → List Line) (c : Chronicle) → AreSilent head → ((r : ℕ) (l : Letter) → AreSilent (told r l)) → AreLines (lines_behind head told c) → AreKnown c.accesses
    → names_of (text (lines_behind head told c)) ≡ names_in 1 c.accesses (length c.letters)
unfolding names_of
lines_named head told c front silent plain k =
    let s = c.scenario in
    let rounds = rounds_told told c.accesses 1 c.letters in
    let ds = decision_lines s (lieutenants s.generals s.commander) c.decisions in
    let end : List Line = verdict_line c.verdict ∷ [] in
    let tail : List Line = ([] ∷ []) ∷ [] in
    let behind : named ((ds ++ end) ++ tail) ≡ ([], []) =
    ap named (append_assoc ds end tail) ∙ silent-front ds (end ++ tail) (decisions_silent s (lieutenants s.generals s.commander) c.decisions) in
    ap (λ ls. (named ls).1) (text-split (lines_behind head told c) plain)
    ∙ ap (λ ls. (named ls).1) (append_assoc head (rounds ++ (ds ++ end)) tail)
    ∙ ap (λ p. p.1) (silent-front head ((rounds ++ (ds ++ end)) ++ tail) front)
    ∙ ap (λ ls. (named ls).1) (append_assoc rounds (ds ++ end) tail)
    ∙ ap (λ p. p.1) (rounds-named told silent c.accesses 1 c.letters ((ds ++ end) ++ tail) k behind)

pub names_told : (v : Version) (c : Chronicle) → AreKnown c.accesses → names_of (text_in v c) ≡ names_in 1 c.accesses (length c.letters)
unfolding text_in lines_in
names_told v c k = lines_named (head_lines v c.scenario) (λ _. letter_lines) c ((λ rest. refl), ((λ rest. refl), tt)) (λ _. letter_silent) (chronicle_plain v c) k

pub known_all : (xs : List Access) → All (λ a. a.general < 13) xs → AreKnown xs
known_all [] h = tt
known_all (a ∷ xs) h = (h 0 a (omega arith), known_all xs (λ k d lt. h (suc k) d (omega arith)))

pub proved_names_are_told : (v : Version) (c : Chronicle) → All (λ a. a.general < 13) c.accesses → names_of (text_in v c) ≡ names_in 1 c.accesses (length c.letters)
proved_names_are_told v c known = names_told v c (known_all c.accesses known)
