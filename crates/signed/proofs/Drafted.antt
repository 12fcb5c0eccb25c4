-- The letters made from the drafts and the parts are the letters of the round, and send the same chains.
use Rattle.std.proofs.Common.{◌≡◌, ◌≢◌, ℕ, zero, suc, ◌+◌, ◌<◌, Bool, true, false, cond, List, [], ◌∷◌, ◌++◌, length, map, refl, sym, ap, subst, ◌∙◌, inl, inr, Option, Some, None, arith}
use Rattle.std.specs.Prelude.{slice_get, find, ◌==◌}
use Rattle.std.specs.List.{range_with_len}
use Rattle.std.proofs.lemmas.Bool.{cases_eq, ne_eqb, eq-eqb}
use Rattle.board.specs.Board.{Access}
use Rattle.round.specs.Scenario.{Scenario}
use Rattle.round.specs.Letters.{Letter, letter_of}
use Rattle.round.specs.Activation.{Activation}
use Rattle.round.specs.Running.{letter_left}
use Rattle.round.specs.Runs.{IsLetter}
use Rattle.world.specs.declared.draft.LetterDraft.{LetterDraft}
use Rattle.world.specs.declared.draft.LetterDraft.TheVariants.{Begun}
use Rattle.world.specs.Closing.{letter_from, letters_from, AreDraftsOf}
use Rattle.world.specs.Kind.{each, accesses_of}
use Rattle.world.specs.declared.part.Progress.{Progress}
use Rattle.world.specs.declared.part.Progress.TheVariants.{Acting, Silent, Posted}
use Rattle.world.proofs.Listing.{each-get, each-get_only, each-length}
use Rattle.signed.specs.Entries.{dispatched}
use Rattle.signed.specs.Kind.{signed_kind}
use Rattle.world.specs.KindHeld.{AreLetters, letter_held, letters_held}
use Rattle.signed.specs.Sending.{draft_behind, drafts_behind, entries_drafted, sent_drafted}
use Rattle.signed.specs.Sent.{Sent, held_behind, sends, round_sent, sent_in}
use Rattle.signed.proofs.Behind.{written_behind}

each-below : {A : Type 0} (n : ℕ) (f h : ℕ → List A) → ((g : ℕ) → g < n → f g ≡ h g) → each n f ≡ each n h
each-below zero f h e = refl
each-below (suc n) f h e = (λ i. each-below n f h (λ g lt. e g (omega arith)) i ++ e n (omega arith) i)

range_same : {A : Type 0} (a n : ℕ) (f h : ℕ → A) → ((g : ℕ) → g < a + n → f g ≡ h g) → map f (range_with_len a n) ≡ map h (range_with_len a n)
range_same a zero f h e = refl
range_same a (suc n) f h e = (λ i. e a (omega arith) i ∷ range_same (a + 1) n f h (λ g lt. e g (omega arith)) i)

-- An element is found in lists of which only one has an element that passes.
find_left : {A : Type 0} (t : A → Bool) (xs ys : List A) → find t ys ≡ None → find t (xs ++ ys) ≡ find t xs
find_left t [] ys e = e
find_left {A = A} t (x ∷ xs) ys e = ap (λ (o : Option A). cond (t x) (Some x) o) (find_left t xs ys e)

find_right : {A : Type 0} (t : A → Bool) (xs ys : List A) → find t xs ≡ None → find t (xs ++ ys) ≡ find t ys
find_right t [] ys e = refl
find_right t (x ∷ xs) ys e = by (t x) e (λ none. find_right t xs ys none)
  where
    by : (b : Bool) → cond b (Some x) (find t xs) ≡ None → (find t xs ≡ None → find t (xs ++ ys) ≡ find t ys) → cond b (Some x) (find t (xs ++ ys)) ≡ find t ys
    by true e more = absurd cc
    by false e more = more e

each_none : {A : Type 0} (n : ℕ) (t : A → Bool) (f : ℕ → List A) → ((j : ℕ) → j < n → find t (f j) ≡ None) → find t (each n f) ≡ None
each_none zero t f none = refl
each_none (suc n) t f none = find_right t (each n f) (f n) (each_none n t f (λ j lt. none j (omega arith))) ∙ none n (omega arith)

each_found : {A : Type 0} (n : ℕ) (t : A → Bool) (f : ℕ → List A) (g : ℕ) → g < n → ((j : ℕ) → j ≢ g → find t (f j) ≡ None) → find t (each n f) ≡ find t (f g)
each_found zero t f g lt none = absurd (omega arith)
each_found (suc n) t f g lt none = elim (cases_eq g n) [
  | inl e ↦ find_right t (each n f) (f n) (each_none n t f (λ j l. none j (λ s. let r = s in let v = e in omega arith))) ∙ ap (λ (j : ℕ). find t (f j)) (sym e)
  | inr ne ↦ let d : g ≢ n = ne in find_left t (each n f) (f n) (none n (λ s. d (sym s))) ∙ each_found n t f g (omega arith) none
]

begun_by : (s : Scenario) (sent : Sent) (accesses : List Access) (g : ℕ) (o : Option Progress) (t : List Access) (a : Activation) → o ≡ Some (Acting a) → Begun t ≡ draft_behind s sent accesses g o → t ≡ accesses_of g accesses
begun_by s sent accesses g o t a acting is = (let e : Begun t ≡ Begun (accesses_of g accesses) = is ∙ ap (λ (p : Option Progress). draft_behind s sent accesses g p) acting in cc)

module _ (s : Scenario) (closed : List (List Letter)) (accesses : List Access) where
  by_part : (g : ℕ) (o : Option Progress) → letter_from g (suc (length closed)) (Some (draft_behind s (sent_in s closed) accesses g o)) o ≡ letter_held signed_kind s closed accesses g o
  by_part g None = refl
  by_part g (Some (Acting a)) = refl
  by_part g (Some Silent) = refl
  by_part g (Some Posted) = ap (λ (l : Letter). l ∷ []) (written_behind s closed g)

  -- Letters of other generals are not his.
  not_his : (g j : ℕ) (o : Option Progress) → j ≢ g → find (λ l. l.general == g) (letter_held signed_kind s closed accesses j o) ≡ None
  not_his g j None ne = refl
  not_his g j (Some (Acting a)) ne = rw (ne_eqb j g ne) refl
  not_his g j (Some Silent) ne = refl
  not_his g j (Some Posted) ne = rw (ne_eqb j g ne) refl

  -- The entries of a draft and a part are in the letter.
  sent_by_part : (g : ℕ) (o : Option Progress) →
      dispatched s.generals s.commander g (held_behind s.generals (sent_in s closed) g) (entries_drafted (Some (draft_behind s (sent_in s closed) accesses g o)) o)
      ≡ sends s (sent_in s closed) g (find (λ l. l.general == g) (letter_held signed_kind s closed accesses g o))
  sent_by_part g None = refl
  sent_by_part g (Some (Acting a)) = rw (eq-eqb g g refl) refl
  sent_by_part g (Some Silent) = refl
  sent_by_part g (Some Posted) =
      rw (eq-eqb g g refl) (ap (λ (l : Letter). dispatched s.generals s.commander g (held_behind s.generals (sent_in s closed) g) l.outbox.entries) (written_behind s closed g))

module _ (s : Scenario) (closed : List (List Letter)) (accesses : List Access) (ps : List Progress) (ds : List LetterDraft) (same : ds ≡ drafts_behind s (sent_in s closed) accesses ps) where
  pub drafts_count : length ds ≡ s.generals
  drafts_count = ap length same ∙ each-length s.generals (λ g. draft_behind s (sent_in s closed) accesses g (slice_get ps g))

  drafted_at : (g : ℕ) → g < s.generals → slice_get ds g ≡ Some (draft_behind s (sent_in s closed) accesses g (slice_get ps g))
  drafted_at g lt = ap (λ (l : List LetterDraft). slice_get l g) same ∙ each-get s.generals (λ j. draft_behind s (sent_in s closed) accesses j (slice_get ps j)) g lt

  -- The letters that the code writes are those of the round.
  pub row_is : (n round : ℕ) (row : List Letter) → n ≡ s.generals → round ≡ suc (length closed) → row ≡ letters_from n round ds ps → row ≡ letters_held signed_kind s closed accesses ps
  row_is n round row all counted is =
      is ∙ (ap (λ (m : ℕ). letters_from m round ds ps) all
      ∙ each-below s.generals (λ g. letter_from g round (slice_get ds g) (slice_get ps g)) (λ g. letter_held signed_kind s closed accesses g (slice_get ps g))
      (λ g lt. (λ i. letter_from g (counted i) (drafted_at g lt i) (slice_get ps g)) ∙ by_part s closed accesses g (slice_get ps g)))

  pub drafts_run : (round : ℕ) → round ≡ suc (length closed) → AreLetters (suc (length closed)) accesses ps → AreDraftsOf round ds ps
  drafts_run round counted runs g t a there acting =
      let only = each-get_only s.generals (λ j. draft_behind s (sent_in s closed) accesses j (slice_get ps j)) g (Begun t) (ap (λ (l : List LetterDraft). slice_get l g) (sym same) ∙ there) in
      let is : t ≡ accesses_of g accesses = begun_by s (sent_in s closed) accesses g (slice_get ps g) t a acting only.1 in
      subst (λ (n : ℕ). IsLetter (letter_left g n t a)) (sym counted) (subst (λ (l : List Access). IsLetter (letter_left g (suc (length closed)) l a)) (sym is) (runs g a acting))

  -- The chains made from the drafts are those that the letters send.
  pub round_drafted : sent_drafted s (sent_in s closed) ds ps ≡ round_sent s (sent_in s closed) (letters_held signed_kind s closed accesses ps)
  round_drafted =
      let sent = sent_in s closed in
      let row = letters_held signed_kind s closed accesses ps in
      range_same 0 s.generals
      (λ g. dispatched s.generals s.commander g (held_behind s.generals sent g) (entries_drafted (slice_get ds g) (slice_get ps g)))
      (λ g. sends s sent g (letter_of row g))
      (λ g lt.
      ap (λ (o : Option LetterDraft). dispatched s.generals s.commander g (held_behind s.generals sent g) (entries_drafted o (slice_get ps g))) (drafted_at g (omega arith))
      ∙ (sent_by_part s closed accesses g (slice_get ps g)
      ∙ ap (sends s sent g) (sym (each_found s.generals (λ l. l.general == g) (λ j. letter_held signed_kind s closed accesses j (slice_get ps j)) g (omega arith)
      (λ j ne. not_his s closed accesses g j (slice_get ps j) ne)))))
