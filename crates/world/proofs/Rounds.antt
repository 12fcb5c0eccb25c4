-- What every run keeps.
use Rattle.std.proofs.Common.{◌≡◌, ◌≢◌, ℕ, zero, suc, ◌<◌, ◌≤◌, List, [], ◌∷◌, ◌++◌, length, take, get_or, Bool, true, false, cond, refl, sym, ap, subst, ◌∙◌, ⊎_elim, Option, Some, None, arith, length-append}
use Rattle.std.specs.Prelude.{find, slice_get, ◌==◌}
use Rattle.std.specs.List.{list_all}
use Rattle.std.proofs.lemmas.Bool.{eq-eqb, ne_eqb, and_parts, ltb-true, lt-ltb, cases_Bool}
use Rattle.std.proofs.lemmas.Bool.Decides.{eqb_tells}
use Rattle.insn.specs.declared.insn.Insn.{Insn}
use Rattle.board.specs.Board.{IsBoard}
use Rattle.world.specs.declared.event.Event.{Event}
use Rattle.world.specs.declared.event.Event.TheVariants.{Tick, Post, Close}
use Rattle.round.specs.Scenario.{Scenario, program_of}
use Rattle.round.specs.Letters.{Letter, letter_of}
use Rattle.round.specs.Activation.{Activation}
use Rattle.world.specs.Part.{Progress, Acting, Silent, Posted, owes_no_letter}
use Rattle.world.specs.Kind.{Kind, loyal_letter, World, begins, opening, round_open, letters_at, round_letters, closing, happen, run, each}
use Rattle.world.proofs.Kept.{Fits, Tells, IsKept}
use Rattle.world.proofs.Listing.{each-find, each-get_only, each-length, all-at, take-front, take-whole, get_or-left, get_or-seam}
use Rattle.world.specs.KindLists.{IsMove}
use Rattle.world.proofs.Moves.{move_same, AllParts, IsLasting, move_keeps, move_board}

Suits : Scenario → ℕ → Progress → Type 0
Suits s g part = (g < s.generals) × Fits (program_of s g) part

fits_go : (o : Option (List Insn)) (a b : Activation) → Fits o (Acting a) → Fits o (Acting b)
fits_go None a b f = absurd f
fits_go (Some p) a b f = tt

fits_post : (o : Option (List Insn)) → Fits o Silent → Fits o Posted
fits_post None f = tt
fits_post (Some p) f = absurd f

suits_lasts : (s : Scenario) → IsLasting (Suits s)
unfolding Suits
suits_lasts s = record {
  goes = λ g a b q e. (q.0, fits_go (program_of s g) a b q.1);
  asks = λ g a q f r h e fit. (h.0, fits_go (program_of s g) a (f r) h.1);
  posts = λ g q. (q.0, fits_post (program_of s g) q.1);
}

module _ (K : Kind) where
  fits_begins : (s : Scenario) (closed : List (List Letter)) (g : ℕ) (o : Option (List Insn)) → Fits o (begins K s closed g o)
  fits_begins s closed g None = tt
  fits_begins s closed g (Some p) = tt

  move_kept : (w : World) (e : Event) → IsMove e → IsKept K w → IsKept K (happen K w e)
  unfolding Suits
  move_kept w e i k =
      let v = happen K w e in
      let same = move_same K w e i in
      let parts : AllParts (Suits w.scenario) v.parts = move_keeps K (Suits w.scenario) (suits_lasts w.scenario) w e i k.board k.parts in
      record {
        parts = (let A : Scenario → Type 0 = λ s. AllParts (Suits s) v.parts in subst A (sym same.scenario) parts);
        open_parts = (let A : Scenario → Type 0 = λ s. length v.closed < suc s.bound → length v.parts ≡ s.generals in
            subst A (sym same.scenario) (λ lt. same.count ∙ k.open_parts (let h = same.closed in let h' = ap length h in omega arith)));
        closed = (let A : Scenario → Type 0 = λ s. length v.closed ≤ suc s.bound in
            subst A (sym same.scenario) (let h = ap length same.closed in let l = k.closed in omega arith));
        board = move_board K w e i k.board;
        told = (let A : Scenario → List (List Letter) → Type 0 = λ s ls. v.full ≡ true → (g : ℕ) → g < s.generals → program_of s g ≡ None → Tells K s ls g in
            subst (λ (s : Scenario). A s v.closed) (sym same.scenario) (subst (λ (ls : List (List Letter)). A w.scenario ls) (sym same.closed) (λ f. k.told (sym same.full ∙ f))));
      }

  -- Letters of other generals are not the letter of general `g`.
  not_his : (w : World) (g j : ℕ) (o : Option Progress) → j ≢ g → find (λ l. l.general == g) (letters_at K w j o) ≡ None
  not_his w g j None ne = refl
  not_his w g j (Some (Acting a)) ne = rw (ne_eqb j g ne) refl
  not_his w g j (Some Silent) ne = refl
  not_his w g j (Some Posted) ne = rw (ne_eqb j g ne) refl

  his : (w : World) (g : ℕ) (o : Option (List Insn)) (part : Progress) → o ≡ None → Fits o part → owes_no_letter part ≡ true
      → find (λ l. l.general == g) (letters_at K w g (Some part)) ≡ Some (loyal_letter K w.scenario w.closed g)
  his w g None (Acting a) n f h = absurd f
  his w g None Silent n f h = cc
  his w g None Posted n f h = rw (eq-eqb g g refl) refl
  his w g (Some p) part n f h = cc

  some_part : (w : World) → IsKept K w → length w.closed < suc w.scenario.bound → (g : ℕ) → g < w.scenario.generals → (part : Progress) × (slice_get w.parts g ≡ Some part)
  some_part w k more g lt = within w.parts g (let h = k.open_parts more in omega arith)
    where
      within : (ps : List Progress) (g : ℕ) → g < length ps → (part : Progress) × (slice_get ps g ≡ Some part)
      within [] g lt = absurd (omega arith)
      within (p ∷ ps) zero lt = (p, refl)
      within (p ∷ ps) (suc g) lt = within ps g (omega arith)

  told_now : (w : World) → IsKept K w → length w.closed < suc w.scenario.bound → list_all owes_no_letter w.parts ≡ true → (g : ℕ) → g < w.scenario.generals → program_of w.scenario g ≡ None
      → letter_of (round_letters K w) g ≡ Some (loyal_letter K w.scenario w.closed g)
  told_now w k more all g lt loyal =
      let part = some_part w k more g lt in
      each-find w.scenario.generals (λ l. l.general == g) (λ j. letters_at K w j (slice_get w.parts j)) g _ lt
      (λ j ne. not_his w g j (slice_get w.parts j) ne)
      (ap (λ o. find (λ l. l.general == g) (letters_at K w g o)) part.1
      ∙ his w g (program_of w.scenario g) part.0 loyal (k.parts g part.0 part.1).1 (all-at owes_no_letter w.parts g part.0 all part.1))

  tells_more : (s : Scenario) (rounds : List (List Letter)) (ls : List Letter) (g : ℕ) → Tells K s rounds g
      → letter_of ls g ≡ Some (loyal_letter K s rounds g) → Tells K s (rounds ++ ls ∷ []) g
  tells_more s rounds ls g before new k lt =
      ⊎_elim (λ (x : (k == length rounds ≡ true) × (k ≡ length rounds)).
      (let A : ℕ → Type 0 = λ i. letter_of (get_or (rounds ++ ls ∷ []) i []) g ≡ Some (loyal_letter K s (take i (rounds ++ ls ∷ [])) g) in
      subst A (sym x.1) (rw (get_or-seam rounds ls [], take-whole rounds (ls ∷ [])) new)))
      (λ (x : (k == length rounds ≡ false) × (k ≢ length rounds)).
      let less : k < length rounds = (let ne = x.1 in let l = length-append rounds (ls ∷ []) in omega arith) in
      rw (get_or-left rounds (ls ∷ []) k [] less, take-front rounds (ls ∷ []) k (omega arith)) (before k less))
      (eqb_tells k (length rounds))

  begun_parts : (s : Scenario) (closed : List (List Letter)) (b : Bool) → AllParts (Suits s) (cond b (each s.generals (λ g. begins K s closed g (program_of s g) ∷ [])) [])
  unfolding Suits
  begun_parts s closed true g part e =
      let h = each-get_only s.generals (λ g. begins K s closed g (program_of s g)) g part e in
      (h.0, (let A : Progress → Type 0 = λ p. Fits (program_of s g) p in subst A (sym h.1) (fits_begins s closed g (program_of s g))))
  begun_parts s closed false g part e = cc

  pub opening_kept : (s : Scenario) → IsBoard s.board → IsKept K (opening K s)
  unfolding Suits
  opening_kept s board = record {
    parts = begun_parts s [] (round_open s []);
    open_parts = λ lt. (let b : round_open s [] ≡ true = lt-ltb 0 (suc s.bound) (omega arith) in
        ap (λ b. length (cond b (each s.generals (λ g. begins K s [] g (program_of s g) ∷ [])) [])) b ∙ each-length s.generals (λ g. begins K s [] g (program_of s g)));
    closed = omega arith;
    board = board;
    told = λ f g lt loyal k l. absurd (omega arith);
  }

  pub closing_kept : (w : World) → IsKept K w → length w.closed < suc w.scenario.bound → IsKept K (closing K w)
  unfolding Suits
  closing_kept w k more =
      let s = w.scenario in
      let closed' = w.closed ++ round_letters K w ∷ [] in
      let long : length closed' ≡ suc (length w.closed) = omega (arith, length-append w.closed (round_letters K w ∷ [])) in
      record {
        parts = begun_parts s closed' (round_open s closed');
        open_parts = λ lt. rw (lt-ltb (length closed') (suc s.bound) lt) (each-length s.generals (λ g. begins K s closed' g (program_of s g)));
        closed = omega arith;
        board = k.board;
        told = λ f g lt loyal.
            let both = and_parts w.full (list_all owes_no_letter w.parts) f in
            tells_more s w.closed (round_letters K w) g (k.told both.0 g lt loyal) (told_now w k more both.1 g lt loyal);
      }

  pub happen_kept : (w : World) (e : Event) → IsKept K w → IsKept K (happen K w e)
  happen_kept w (Tick g) k = move_kept w (Tick g) tt k
  happen_kept w (Post g) k = move_kept w (Post g) tt k
  happen_kept w Close k =
      ⊎_elim (λ (h : round_open w.scenario w.closed ≡ true). rw h (closing_kept w k (ltb-true (length w.closed) (suc w.scenario.bound) h)))
      (λ (h : round_open w.scenario w.closed ≡ false). rw h k)
      (cases_Bool (round_open w.scenario w.closed))

  pub run_kept : (es : List Event) (w : World) → IsKept K w → IsKept K (run K w es)
  run_kept [] w k = k
  run_kept (e ∷ es) w k = run_kept es (happen K w e) (happen_kept w e k)
