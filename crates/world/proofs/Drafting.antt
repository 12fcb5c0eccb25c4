-- The letters made from the drafts and the parts are the letters of the round.
use Rattle.std.proofs.Common.{◌≡◌, ℕ, zero, suc, ◌<◌, List, ◌++◌, length, refl, sym, ap, subst, ◌∙◌, Option, Some, None, get_or, arith}
use Rattle.std.specs.Prelude.{slice_get}
use Rattle.std.proofs.lemmas.Option.{slice_get_read}
use Rattle.board.specs.Board.{Access}
use Rattle.round.specs.Scenario.{Scenario}
use Rattle.round.specs.Letters.{Letter}
use Rattle.round.specs.Activation.{Activation}
use Rattle.round.specs.Running.{letter_left}
use Rattle.round.specs.Runs.{IsLetter}
use Rattle.world.specs.Part.{Progress, Acting, Silent, Posted}
use Rattle.world.specs.World.{each, accesses_of}
use Rattle.world.specs.Held.{letter_held, letters_held, AreLetters}
use Rattle.world.specs.Closing.{LetterDraft, Begun, draft_of, drafts_held, letter_from, letters_from, AreDraftsOf}
use Rattle.world.proofs.Listing.{each-get, each-get_only, each-length}

each-below : {A : Type 0} (n : ℕ) (f h : ℕ → List A) → ((g : ℕ) → g < n → f g ≡ h g) → each n f ≡ each n h
each-below zero f h e = refl
each-below (suc n) f h e = (λ i. each-below n f h (λ g lt. e g (omega arith)) i ++ e n (omega arith) i)

by_part : (s : Scenario) (closed : List (List Letter)) (accesses : List Access) (g : ℕ) (o : Option Progress) → letter_from g (suc (length closed)) (Some (draft_of s closed accesses g o)) o ≡ letter_held s closed accesses g o
by_part s closed accesses g None = refl
by_part s closed accesses g (Some (Acting a)) = refl
by_part s closed accesses g (Some Silent) = refl
by_part s closed accesses g (Some Posted) = refl

begun_by : (s : Scenario) (closed : List (List Letter)) (accesses : List Access) (g : ℕ) (o : Option Progress) (t : List Access) (a : Activation) → o ≡ Some (Acting a) → Begun t ≡ draft_of s closed accesses g o → t ≡ accesses_of g accesses
begun_by s closed accesses g o t a acting is = (let e : Begun t ≡ Begun (accesses_of g accesses) = is ∙ ap (λ (p : Option Progress). draft_of s closed accesses g p) acting in cc)

module _ (s : Scenario) (closed : List (List Letter)) (accesses : List Access) (ps : List Progress) (ds : List LetterDraft) (round : ℕ) where
  pub drafts_count : ds ≡ drafts_held s closed accesses ps → length ds ≡ s.generals
  drafts_count same = ap length same ∙ each-length s.generals (λ g. draft_of s closed accesses g (slice_get ps g))

  pub drafted : ds ≡ drafts_held s closed accesses ps → round ≡ suc (length closed) → letters_from s.generals round ds ps ≡ letters_held s closed accesses ps
  drafted same counted =
      each-below s.generals (λ g. letter_from g round (slice_get ds g) (slice_get ps g)) (λ g. letter_held s closed accesses g (slice_get ps g))
      (λ g lt.
      let at : slice_get ds g ≡ Some (draft_of s closed accesses g (slice_get ps g)) = ap (λ (l : List LetterDraft). slice_get l g) same ∙ each-get s.generals (λ j. draft_of s closed accesses j (slice_get ps j)) g lt in
      (λ i. letter_from g (counted i) (at i) (slice_get ps g)) ∙ by_part s closed accesses g (slice_get ps g))

  pub drafts_run : ds ≡ drafts_held s closed accesses ps → round ≡ suc (length closed) → AreLetters (suc (length closed)) accesses ps → AreDraftsOf round ds ps
  drafts_run same counted runs g t a there acting =
      let only = each-get_only s.generals (λ j. draft_of s closed accesses j (slice_get ps j)) g (Begun t) (ap (λ (l : List LetterDraft). slice_get l g) (sym same) ∙ there) in
      let is : t ≡ accesses_of g accesses = begun_by s closed accesses g (slice_get ps g) t a acting only.1 in
      subst (λ (n : ℕ). IsLetter (letter_left g n t a)) (sym counted) (subst (λ (l : List Access). IsLetter (letter_left g (suc (length closed)) l a)) (sym is) (runs g a acting))

-- The element at an index that was read.
pub read_at : {X : Type 0} (xs : List X) (i p : ℕ) (x y : X) → p ≡ i → i < length xs → x ≡ get_or xs p x → x ≡ y → slice_get xs i ≡ Some y
read_at xs i p x y e lt g same = ap (slice_get xs) (sym e) ∙ (slice_get_read xs (length xs) p x refl (omega arith) g ∙ ap Some same)

pub left_row : (g h round : ℕ) (ds : List LetterDraft) (ps : List Progress) (d : LetterDraft) (part : Progress) (row new : List Letter) → new ≡ row ++ letter_from h round (Some d) (Some part) → h ≡ g → slice_get ds g ≡ Some d → slice_get ps g ≡ Some part →
    new ≡ row ++ letter_from g round (slice_get ds g) (slice_get ps g)
left_row g h round ds ps d part row new e same there at = e ∙ (λ i. row ++ letter_from (same i) round (sym there i) (sym at i))

pub drafts_same : (s : Scenario) (c c' : List (List Letter)) (a a' : List Access) (p p' : List Progress) (ds : List LetterDraft) → ds ≡ drafts_held s c' a' p' → c' ≡ c → a' ≡ a → p' ≡ p → ds ≡ drafts_held s c a p
drafts_same s c c' a a' p p' ds h e f g = h ∙ (λ i. drafts_held s (e i) (f i) (g i))

-- The letters that the code writes are those of the round.
pub row_is : (s : Scenario) (closed : List (List Letter)) (accesses : List Access) (ps : List Progress) (ds : List LetterDraft) (n round : ℕ) (row : List Letter) → ds ≡ drafts_held s closed accesses ps → n ≡ s.generals → round ≡ suc (length closed) →
    row ≡ letters_from n round ds ps → row ≡ letters_held s closed accesses ps
row_is s closed accesses ps ds n round row same all counted is = is ∙ (ap (λ (m : ℕ). letters_from m round ds ps) all ∙ drafted s closed accesses ps ds round same counted)
