-- What an event does to a world as the code holds it.
use Rattle.std.proofs.Common.{◌≡◌, ℕ, zero, suc, ◌≤◌, ◌+◌, ◌-◌, List, [], ◌∷◌, ◌++◌, length, drop, Bool, true, false, cond, refl, sym, ap, subst, ◌∙◌, ◌⊎◌, inl, inr, ⊎_elim, Option, Some, None, Result, Ok, Err, arith, append-nil}
use Rattle.std.specs.Prelude.{slice_get, slice_set, replicate, OnOk, OnErr, nat_lt, ◌&&◌}
use Rattle.std.specs.List.{list_all}
use Rattle.std.proofs.lemmas.Bool.{lt-ltb, ltb-true, ltb-false, cases_Bool}
use Rattle.board.specs.Ledger.{RecordedBoard}
use Rattle.round.specs.Scenario.{Scenario, IsScenario}
use Rattle.round.specs.Letters.{Letter}
use Rattle.round.specs.Activation.{Activation, Turn, Goes, Asks, Ended, turn}
use Rattle.round.specs.Runs.{Onward, Runs, IsRunOf, IsWithin, IsLetter}
use Rattle.round.specs.Running.{moved, Silently, Pauses}
use Rattle.round.proofs.Stepping.{runs_steps}
use Rattle.world.specs.declared.event.Event.{Event}
use Rattle.world.specs.declared.event.Event.TheVariants.{Tick, Post, Close}
use Rattle.world.specs.Part.{Progress, Acting, Silent, Posted, owes_no_letter}
use Rattle.world.specs.Kind.{Kind, World, each, opening, served, ticked, posting, closing, happen, run, round_open, letters_at, round_letters, accesses_of}
use Rattle.world.specs.KindHeld.{world_of, IsHeld}
use Rattle.board.specs.Board.{Access}
use Rattle.world.specs.KindHeld.{ticked_of, posted_of, AheadTo, letter_held, letters_held, beginnings, AreLetters}
use Rattle.round.specs.Running.{letter_left}
use Rattle.world.specs.Safety.{IsPlaced, HasRun}
use Rattle.round.proofs.Ends.{proved_patience_is_kept}
use Rattle.world.proofs.Standing.{parts_are_placed, activations_are_runs}
use Rattle.world.proofs.Rounds.{run_kept, opening_kept}
use Rattle.world.proofs.Listing.{set-here}
use Rattle.world.proofs.Moves.{run-append}
use Rattle.world.specs.Campaigns.{AreCampaigns, TellRelays}

pub set-same : {A : Type 0} (xs : List A) (i : ℕ) (x : A) → slice_get xs i ≡ Some x → slice_set xs i x ≡ xs
set-same [] i x e = refl
set-same (y ∷ ys) zero x e = (let f : y ≡ x = cc in ap (λ z. z ∷ ys) (sym f))
set-same (y ∷ ys) (suc i) x e = ap (λ zs. y ∷ zs) (set-same ys i x e)

set-twice : {A : Type 0} (xs : List A) (i : ℕ) (x y : A) → slice_set (slice_set xs i x) i y ≡ slice_set xs i y
set-twice [] i x y = refl
set-twice (z ∷ xs) zero x y = refl
set-twice (z ∷ xs) (suc i) x y = ap (λ l. z ∷ l) (set-twice xs i x y)

either_le : (m n : ℕ) → (m ≤ n) ⊎ (n ≤ m)
either_le m n = ⊎_elim (λ (h : nat_lt m n ≡ true). inl (let l = ltb-true m n h in omega arith)) (λ (h : nat_lt m n ≡ false). inr (ltb-false m n h)) (cases_Bool (nat_lt m n))

-- A tick of a general without an activation changes nothing.
pub idle_turn : (ps : List Progress) (b : RecordedBoard) (g r place : ℕ) (x : Progress) → place ≡ g → slice_get ps place ≡ Some x → x ≡ Silent ⊎ x ≡ Posted → (slice_set ps place x, b) ≡ ticked_of g r ps b (slice_get ps g)
idle_turn ps b g r place x same at kind =
    let same_list : slice_set ps place x ≡ ps = set-same ps place x at in
    let there : slice_get ps g ≡ Some x = ap (slice_get ps) (sym same) ∙ at in
    let A : Option Progress → Type 0 = λ o. (slice_set ps place x, b) ≡ ticked_of g r ps b o in
    let is : (slice_set ps place x, b) ≡ (ps, b) = (λ i. (same_list i, b)) in
    subst A (sym there) (⊎_elim (λ (e : x ≡ Silent). subst (λ (p : Progress). (slice_set ps place x, b) ≡ ticked_of g r ps b (Some p)) (sym e) is)
    (λ (e : x ≡ Posted). subst (λ (p : Progress). (slice_set ps place x, b) ≡ ticked_of g r ps b (Some p)) (sym e) is) kind)

pub idle_ahead : (limit : ℕ) (ps : List Progress) (g place : ℕ) (x : Progress) → place ≡ g → slice_get ps place ≡ Some x → x ≡ Silent ⊎ x ≡ Posted → AheadTo limit 0 ps g (slice_get ps g) (slice_set ps place x)
idle_ahead limit ps g place x same at kind =
    let same_list : slice_set ps place x ≡ ps = set-same ps place x at in
    let there : slice_get ps g ≡ Some x = ap (slice_get ps) (sym same) ∙ at in
    let A : Option Progress → Type 0 = λ o. AheadTo limit 0 ps g o (slice_set ps place x) in
    subst A (sym there) (⊎_elim (λ (e : x ≡ Silent). subst (λ (p : Progress). AheadTo limit 0 ps g (Some p) (slice_set ps place x)) (sym e) (refl, same_list))
    (λ (e : x ≡ Posted). subst (λ (p : Progress). AheadTo limit 0 ps g (Some p) (slice_set ps place x)) (sym e) (refl, same_list)) kind)

pub acting_ahead : (limit taken : ℕ) (ps : List Progress) (g place : ℕ) (x : Progress) (a b : Activation) → place ≡ g → slice_get ps place ≡ Some x → x ≡ Acting a → Silently a b → Pauses limit b (turn b) →
    ((m : ℕ) → a.state.steps ≤ m → limit ≤ m → b.state.steps ≤ m) → taken ≡ b.state.steps - a.state.steps → AheadTo limit taken ps g (slice_get ps g) (slice_set ps place (Acting b))
acting_ahead limit taken ps g place x a b same at kind way pause within is =
    let there : slice_get ps g ≡ Some (Acting a) = ap (slice_get ps) (sym same) ∙ (at ∙ ap (λ (p : Progress). Some p) kind) in
    let count = runs_steps way.0 a [] b way.1 in
    let k : way.0 ≡ taken = omega arith in
    let most : taken ≤ limit - a.state.steps = ⊎_elim (λ (le : a.state.steps ≤ limit). let w = within limit le (omega arith) in omega arith) (λ (le : limit ≤ a.state.steps). let w = within a.state.steps (omega arith) le in omega arith) (either_le a.state.steps limit) in
    let A : Option Progress → Type 0 = λ o. AheadTo limit taken ps g o (slice_set ps place (Acting b)) in
    subst A (sym there) (b, subst (λ (n : ℕ). Runs n a [] b) k way.1, most, pause, ap (λ (n : ℕ). slice_set ps n (Acting b)) same)

-- One more general is considered.
pub more_each : {A : Type 0} (n : ℕ) (f : ℕ → List A) (xs x ys : List A) → ys ≡ xs ++ x → xs ≡ each n f → x ≡ f n → ys ≡ each (n + 1) f
more_each n f xs x ys e h is = e ∙ ((λ i. h i ++ is i) ∙ (let m : suc n ≡ n + 1 = omega arith in ap (λ (k : ℕ). each k f) m))

pub none_written : {A : Type 0} (xs ys : List A) → ys ≡ [] → xs ≡ xs ++ ys
none_written {A = A} xs ys e = sym (append-nil xs) ∙ ap (λ (l : List A). xs ++ l) (sym e)

-- The letter of a general with an activation.
pub letter_at : (n g h r : ℕ) (accesses : List Access) (ps : List Progress) (a : Activation) → AreLetters (suc n) accesses ps → slice_get ps g ≡ Some (Acting a) → h ≡ g → r ≡ suc n → IsLetter (letter_left h r (accesses_of h accesses) a)
letter_at n g h r accesses ps a runs at same counted =
    subst (λ (m : ℕ). IsLetter (letter_left h m (accesses_of h accesses) a)) (sym counted)
    (subst (λ (m : ℕ). IsLetter (letter_left m (suc n) (accesses_of m accesses) a)) (sym same) (runs g a at))

pub acting_is : (n g h r : ℕ) (accesses : List Access) (a : Activation) (l : Letter) → h ≡ g → r ≡ suc n → l ≡ letter_left h r (accesses_of h accesses) a → l ∷ [] ≡ letter_left g (suc n) (accesses_of g accesses) a ∷ []
acting_is n g h r accesses a l same counted is = (λ i. is i ∷ []) ∙ (λ i. letter_left (same i) (counted i) (accesses_of (same i) accesses) a ∷ [])

pub each-same : {A : Type 0} (n : ℕ) (f h : ℕ → List A) → ((g : ℕ) → f g ≡ h g) → each n f ≡ each n h
each-same zero f h e = refl
each-same (suc n) f h e = (λ i. each-same n f h e i ++ e n i)

module _ (K : Kind) where
  module _ (s : Scenario) (closed : List (List Letter)) (k : RecordedBoard) (opened : ℕ) (ps : List Progress) (full : Bool) where
    served_is : (g : ℕ) (a : Activation) (t : Turn) → slice_get ps g ≡ Some (Acting a) →
        world_of s closed (moved g (suc (length closed)) a k t).1 opened (slice_set ps g (Acting (moved g (suc (length closed)) a k t).0)) full ≡ served (world_of s closed k opened ps full) g t
    served_is g a (Goes b) e = refl
    served_is g a (Asks q f) e = refl
    served_is g a Ended e = ap (λ (l : List Progress). world_of s closed k opened l full) (set-same ps g (Acting a) e)

    ticked_is : (g : ℕ) (o : Option Progress) → slice_get ps g ≡ o →
        world_of s closed (ticked_of g (suc (length closed)) ps k o).1 opened (ticked_of g (suc (length closed)) ps k o).0 full ≡ ticked (world_of s closed k opened ps full) g o
    ticked_is g None e = refl
    ticked_is g (Some (Acting a)) e = served_is g a (turn a) e
    ticked_is g (Some Silent) e = refl
    ticked_is g (Some Posted) e = refl

    -- A tick of the code is the tick of the definition.
    pub tick_is : (g r : ℕ) (ps' : List Progress) (k' : RecordedBoard) → r ≡ suc (length closed) → (ps', k') ≡ ticked_of g r ps k (slice_get ps g) →
        world_of s closed k' opened ps' full ≡ happen K (world_of s closed k opened ps full) (Tick g)
    tick_is g r ps' k' counted done =
        let is : (ps', k') ≡ ticked_of g (suc (length closed)) ps k (slice_get ps g) = done ∙ ap (λ (n : ℕ). ticked_of g n ps k (slice_get ps g)) counted in
        ap (λ (p : List Progress × RecordedBoard). world_of s closed p.1 opened p.0 full) is ∙ ticked_is g (slice_get ps g) refl

    posted_is : (g : ℕ) (o : Option Progress) → world_of s closed k opened (posted_of g ps o) full ≡ posting (world_of s closed k opened ps full) g o
    posted_is g None = refl
    posted_is g (Some (Acting a)) = refl
    posted_is g (Some Silent) = refl
    posted_is g (Some Posted) = refl

    pub post_is : (g : ℕ) (ps' : List Progress) → ps' ≡ posted_of g ps (slice_get ps g) → world_of s closed k opened ps' full ≡ happen K (world_of s closed k opened ps full) (Post g)
    post_is g ps' done = ap (λ (p : List Progress). world_of s closed k opened p full) done ∙ posted_is g (slice_get ps g)

    -- After further events, what the code guarantees about a world still holds.
    pub held_on : (closed' : List (List Letter)) (k' : RecordedBoard) (opened' : ℕ) (ps' : List Progress) (full' : Bool) (events : List Event) → IsHeld K s closed k opened ps full →
        world_of s closed' k' opened' ps' full' ≡ run K (world_of s closed k opened ps full) events → k'.opening ≡ k.opening → IsHeld K s closed' k' opened' ps' full'
    held_on closed' k' opened' ps' full' events h is same = record {
      reached = (h.reached.0 ++ events, run-append K h.reached.0 events (opening K s) ∙ (ap (λ (w : World). run K w events) h.reached.1 ∙ sym is));
      opening = same ∙ h.opening;
    }

    moved_opening : (g r : ℕ) (a : Activation) (t : Turn) → (moved g r a k t).1.opening ≡ k.opening
    moved_opening g r a (Goes b) = refl
    moved_opening g r a (Asks q f) = refl
    moved_opening g r a Ended = refl

    ticked_opening : (g r : ℕ) (o : Option Progress) → (ticked_of g r ps k o).1.opening ≡ k.opening
    ticked_opening g r None = refl
    ticked_opening g r (Some (Acting a)) = moved_opening g r a (turn a)
    ticked_opening g r (Some Silent) = refl
    ticked_opening g r (Some Posted) = refl

    pub tick_held : {A E : Type 0} (result : Result A E) (g r : ℕ) (ps' : List Progress) (k' : RecordedBoard) → r ≡ suc (length closed) → IsHeld K s closed k opened ps full →
        OnOk result ((ps', k') ≡ ticked_of g r ps k (slice_get ps g)) → OnErr result ((ps' ≡ ps) × (k' ≡ k)) → IsHeld K s closed k' opened ps' full
    tick_held (Ok x) g r ps' k' counted h done undone =
        held_on closed k' opened ps' full (Tick g ∷ []) h (tick_is g r ps' k' counted done) (ap (λ (p : List Progress × RecordedBoard). p.1.opening) done ∙ ticked_opening g r (slice_get ps g))
    tick_held (Err x) g r ps' k' counted h done undone =
        subst (λ (p : List Progress). IsHeld K s closed k' opened p full) (sym undone.0) (subst (λ (b : RecordedBoard). IsHeld K s closed b opened ps full) (sym undone.1) h)

    pub tick_done : {A E : Type 0} (result : Result A E) (g r : ℕ) (ps' : List Progress) (k' : RecordedBoard) (w : World) → r ≡ suc (length closed) → world_of s closed k opened ps full ≡ w →
        OnOk result ((ps', k') ≡ ticked_of g r ps k (slice_get ps g)) → OnOk result (world_of s closed k' opened ps' full ≡ happen K w (Tick g))
    tick_done (Ok x) g r ps' k' w counted is done = tick_is g r ps' k' counted done ∙ ap (λ (v : World). happen K v (Tick g)) is
    tick_done (Err x) g r ps' k' w counted is done = tt

    pub post_held : (g : ℕ) (ps' : List Progress) → IsHeld K s closed k opened ps full → ps' ≡ posted_of g ps (slice_get ps g) → IsHeld K s closed k opened ps' full
    post_held g ps' h done = held_on closed k opened ps' full (Post g ∷ []) h (post_is g ps' done) refl

    pub is_open : length closed ≤ s.bound → round_open s closed ≡ true
    is_open le = lt-ltb (length closed) (suc s.bound) (omega arith)

  -- Turns without an access are as many ticks.
  module _ (s : Scenario) (closed : List (List Letter)) (k : RecordedBoard) (opened : ℕ) (full : Bool) where
    step_by : (n g : ℕ) (ps : List Progress) (a b : Activation) (t : Turn) → turn a ≡ t → slice_get ps g ≡ Some (Acting a) →
        ((c : Activation) → Runs n c [] b → run K (world_of s closed k opened (slice_set ps g (Acting c)) full) (replicate n (Tick g)) ≡ world_of s closed k opened (slice_set (slice_set ps g (Acting c)) g (Acting b)) full) →
        Onward (Runs n) t [] b → run K (served (world_of s closed k opened ps full) g t) (replicate n (Tick g)) ≡ world_of s closed k opened (slice_set ps g (Acting b)) full
    step_by n g ps a b (Goes c) is at again way = again c way ∙ ap (λ (l : List Progress). world_of s closed k opened l full) (set-twice ps g (Acting c) (Acting b))
    step_by n g ps a b (Asks q f) is at again way = absurd way
    step_by n g ps a b Ended is at again way = absurd way

    pub silent_ticks : (n g : ℕ) (ps : List Progress) (a b : Activation) → slice_get ps g ≡ Some (Acting a) → Runs n a [] b →
        run K (world_of s closed k opened ps full) (replicate n (Tick g)) ≡ world_of s closed k opened (slice_set ps g (Acting b)) full
    silent_ticks zero g ps a b at way =
        ap (λ (l : List Progress). world_of s closed k opened l full) (sym (set-same ps g (Acting b) (at ∙ ap (λ (c : Activation). Some (Acting c)) way.1)))
    silent_ticks (suc n) g ps a b at way =
        ap (λ (o : Option Progress). run K (ticked (world_of s closed k opened ps full) g o) (replicate n (Tick g))) at
        ∙ step_by n g ps a b (turn a) refl at (λ c w. silent_ticks n g (slice_set ps g (Acting c)) c b (set-here ps g (Acting c) (Acting a) at) w) way

    pub ahead_is : (limit taken g : ℕ) (ps ps' : List Progress) (o : Option Progress) → slice_get ps g ≡ o → AheadTo limit taken ps g o ps' →
        run K (world_of s closed k opened ps full) (replicate taken (Tick g)) ≡ world_of s closed k opened ps' full
    ahead_is limit taken g ps ps' None e h = ap (λ (n : ℕ). run K (world_of s closed k opened ps full) (replicate n (Tick g))) h.0 ∙ ap (λ (l : List Progress). world_of s closed k opened l full) (sym h.1)
    ahead_is limit taken g ps ps' (Some (Acting a)) e (b, way, most, pause, new) = silent_ticks taken g ps a b e way ∙ ap (λ (l : List Progress). world_of s closed k opened l full) (sym new)
    ahead_is limit taken g ps ps' (Some Silent) e h = ap (λ (n : ℕ). run K (world_of s closed k opened ps full) (replicate n (Tick g))) h.0 ∙ ap (λ (l : List Progress). world_of s closed k opened l full) (sym h.1)
    ahead_is limit taken g ps ps' (Some Posted) e h = ap (λ (n : ℕ). run K (world_of s closed k opened ps full) (replicate n (Tick g))) h.0 ∙ ap (λ (l : List Progress). world_of s closed k opened l full) (sym h.1)

  -- A general who has not posted, or does not exist, has no letter.
  pub silent_row : (s : Scenario) (c : List (List Letter)) (a : List Access) (ps : List Progress) (g : ℕ) (o : Option Progress) (xs : List Letter) → slice_get ps g ≡ o → letter_held K s c a g o ≡ [] →
      xs ≡ xs ++ letter_held K s c a g (slice_get ps g)
  silent_row s c a ps g o xs is none = none_written xs (letter_held K s c a g (slice_get ps g)) (ap (λ (p : Option Progress). letter_held K s c a g p) is ∙ none)

  pub row_with : (s : Scenario) (c : List (List Letter)) (accesses : List Access) (ps : List Progress) (g : ℕ) (o : Option Progress) (xs ys : List Letter) (l : Letter) → slice_get ps g ≡ o → ys ≡ xs ++ l ∷ [] → l ∷ [] ≡ letter_held K s c accesses g o →
      ys ≡ xs ++ letter_held K s c accesses g (slice_get ps g)
  row_with s c accesses ps g o xs ys l at pushed is = pushed ∙ (ap (λ (row : List Letter). xs ++ row) is ∙ ap (λ (p : Option Progress). xs ++ letter_held K s c accesses g p) (sym at))

  -- The letters that the code makes are those of the world.
  same_letter : (w : World) (g : ℕ) (o : Option Progress) → ((a : Activation) → o ≡ Some (Acting a) → IsPlaced K w.scenario w.closed g a) → letter_held K w.scenario w.closed (drop w.opened w.ledger) g o ≡ letters_at K w g o
  same_letter w g None h = refl
  same_letter w g (Some (Acting a)) h =
      let p = h a refl in
      (λ i. record {
        general = g;
        round = suc (length w.closed);
        context = p.context i;
        program = sym p.program i;
        transcript = accesses_of g (drop w.opened w.ledger);
        steps = a.state.steps;
        outbox = record { relay = p.relay i; rows = a.state.outbox; entries = a.state.entries };
        exited = a.over;
      } ∷ [])
  same_letter w g (Some Silent) h = refl
  same_letter w g (Some Posted) h = refl

  pub same_rows : (s : Scenario) (c c' : List (List Letter)) (a a' : List Access) (p p' : List Progress) → c' ≡ c → a' ≡ a → p' ≡ p → letters_held K s c' a' p' ≡ letters_held K s c a p
  same_rows s c c' a a' p p' e f h = (λ i. letters_held K s (e i) (f i) (h i))

  -- A world has at most as many closed rounds as the campaign has rounds.
  pub held_few : (s : Scenario) (closed : List (List Letter)) (k : RecordedBoard) (opened : ℕ) (ps : List Progress) (full : Bool) → IsScenario s → IsHeld K s closed k opened ps full → length closed ≤ suc s.bound
  held_few s closed k opened ps full is h =
      let Q : World → Type 0 = λ v. length v.closed ≤ suc v.scenario.bound in
      subst Q h.reached.1 (run_kept K h.reached.0 (opening K s) (opening_kept K s is.board)).closed

module _ (K : Kind) (good : AreCampaigns K) (tell : TellRelays K) where
  -- The activations of a world are runs of the letters made from them.
  pub held_letters : (s : Scenario) (closed : List (List Letter)) (k : RecordedBoard) (opened : ℕ) (ps : List Progress) (full : Bool) (accesses : List Access) → IsScenario s → IsHeld K s closed k opened ps full → accesses ≡ drop opened k.ledger →
      AreLetters (suc (length closed)) accesses ps
  held_letters s closed k opened ps full accesses is h same g a at =
      let w = world_of s closed k opened ps full in
      let Q : World → Type 0 = λ v. slice_get v.parts g ≡ Some (Acting a) → IsPlaced K s v.closed g a × HasRun v g a in
      let both : IsPlaced K s closed g a × HasRun w g a = subst Q h.reached.1 (λ e. (parts_are_placed K good s h.reached.0 g a is e, (activations_are_runs K good tell).parts s h.reached.0 g a is e)) at in
      let p = both.0 in
      let l = letter_left g (suc (length closed)) (accesses_of g (drop opened k.ledger)) a in
      let is_run : IsRunOf l (Some a.program) = (both.1.0, record a { patience = None }, proved_patience_is_kept.without a.patience a.program a.context a.relay a.state.steps (accesses_of g (drop opened k.ledger)) a both.1.1, refl, refl, refl) in
      let lies : IsWithin a.patience a.state.steps = proved_patience_is_kept.within a.patience a.program a.context a.relay a.state.steps (accesses_of g (drop opened k.ledger)) a both.1.1 in
      let within : IsWithin s.patience a.state.steps = subst (λ (q : Option ℕ). IsWithin q a.state.steps) p.patience lies in
      let letter : IsLetter l = (activations_are_runs K good tell).kept s closed l a.program is (record { general = p.general; rounds = p.rounds; round = refl; context = p.context; relay = p.relay; program = sym p.program; made = is_run; within = within }) refl in
      subst (λ (acc : List Access). IsLetter (letter_left g (suc (length closed)) (accesses_of g acc) a)) (sym same) letter

  module _ (s : Scenario) (closed : List (List Letter)) (k : RecordedBoard) (opened : ℕ) (ps : List Progress) (full : Bool) where
    same_row : IsScenario s → IsHeld K s closed k opened ps full → letters_held K s closed (drop opened k.ledger) ps ≡ round_letters K (world_of s closed k opened ps full)
    same_row is h =
        let w = world_of s closed k opened ps full in
        let Q : World → Type 0 = λ v. (g : ℕ) (a : Activation) → slice_get v.parts g ≡ Some (Acting a) → IsPlaced K s v.closed g a in
        let placed = subst Q h.reached.1 (λ g a e. parts_are_placed K good s h.reached.0 g a is e) in
        each-same s.generals (λ g. letter_held K s closed (drop opened k.ledger) g (slice_get ps g)) (λ g. letters_at K w g (slice_get ps g))
        (λ g. same_letter K w g (slice_get ps g) (λ a e. placed g a e))

    -- A close of the code is the close of the definition.
    pub close_is : (row : List Letter) (closed' : List (List Letter)) (opened' : ℕ) (ps' : List Progress) (full' : Bool) → IsScenario s → IsHeld K s closed k opened ps full → length closed ≤ s.bound →
        row ≡ letters_held K s closed (drop opened k.ledger) ps → closed' ≡ closed ++ row ∷ [] → ps' ≡ beginnings K s closed' → opened' ≡ length k.ledger → full' ≡ (full && list_all owes_no_letter ps) →
        world_of s closed' k opened' ps' full' ≡ happen K (world_of s closed k opened ps full) Close
    close_is row closed' opened' ps' full' is h le row_is closed_is parts_are opened_is full_is =
        let w = world_of s closed k opened ps full in
        let rows : closed' ≡ closed ++ round_letters K w ∷ [] = closed_is ∙ ap (λ (r : List Letter). closed ++ r ∷ []) (row_is ∙ same_row is h) in
        let parts : ps' ≡ beginnings K s (closed ++ round_letters K w ∷ []) = parts_are ∙ ap (λ (c : List (List Letter)). beginnings K s c) rows in
        (λ i. world_of s (rows i) k (opened_is i) (parts i) (full_is i)) ∙ sym (ap (λ b. cond b (closing K w) w) (is_open K s closed k opened ps full le))

  pub runs_for : (s : Scenario) (closed : List (List Letter)) (k : RecordedBoard) (opened : ℕ) (ps : List Progress) (full : Bool) (closed' : List (List Letter)) (accesses : List Access) (ps' : List Progress) → IsScenario s → IsHeld K s closed k opened ps full →
      closed' ≡ closed → accesses ≡ drop opened k.ledger → ps' ≡ ps → AreLetters (suc (length closed')) accesses ps'
  runs_for s closed k opened ps full closed' accesses ps' is h closed_is same parts_are =
      subst (λ (c : List (List Letter)). AreLetters (suc (length c)) accesses ps') (sym closed_is)
      (subst (λ (l : List Progress). AreLetters (suc (length closed)) accesses l) (sym parts_are) (held_letters s closed k opened ps full accesses is h same))
