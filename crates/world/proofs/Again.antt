-- If a piece of the ledger accounts for a round's letters, the round happens again when its accesses are named.
use Rattle.std.proofs.Common.{◌≡◌, ℕ, zero, suc, ◌<◌, ◌≤◌, List, [], ◌∷◌, ◌++◌, length, map, take, drop, Bool, true, false, cond, refl, sym, ap, subst, ◌∙◌, Option, Some, None, append_assoc, arith}
use Rattle.std.specs.Prelude.{slice_get, ◌==◌, ◌&&◌, ◌||◌}
use Rattle.std.specs.List.{list_all}
use Rattle.std.proofs.lemmas.Bool.{lt-ltb}
use Rattle.std.proofs.lemmas.List.{take_all}
use Rattle.std.proofs.lemmas.Option.{slice_get_within}
use Rattle.std.proofs.Math.Seq.{drop-append_seam}
use Rattle.insn.specs.declared.insn.Insn.{Insn}
use Rattle.board.specs.Board.{Access, words_after, IsLegal}
use Rattle.world.specs.declared.event.Event.TheVariants.{Close}
use Rattle.round.specs.Scenario.{Scenario, program_of}
use Rattle.round.specs.Letters.{Letter}
use Rattle.round.specs.Activation.{Activation, started, is_reached}
use Rattle.world.specs.Part.{Progress, Acting, Silent, Posted, owes_no_letter}
use Rattle.world.specs.Kind.{Kind, loyal_letter, World, each, round_open, begins, begun, accesses_of, letters_at, round_letters, happen, run}
use Rattle.round.specs.Runs.{Runs, IsWithin}
use Rattle.world.specs.KindAccounted.{IsLetterOf, IsAccountedRound}
use Rattle.world.specs.KindLists.{names_events, wound_up, IsRipe}
use Rattle.world.proofs.Kept.{Fits, IsKept}
use Rattle.world.proofs.Listing.{each-get, each-get_only, each-length}
use Rattle.world.proofs.Moves.{moves_same, then_same, moves_keep, run-append, AllParts}
use Rattle.world.proofs.Punctual.{all_posted}
use Rattle.world.proofs.Complete.{posts, ends, posts_moves, ends_moves, ripens, part_within}
use Rattle.world.proofs.Lasting.{IsOnTime, moves_due, close_open, names_moves}
use Rattle.round.proofs.Stepping.{runs_steps}
use Rattle.round.proofs.Patience.{under, runs_under}
use Rattle.world.proofs.Following.{Act, of_first, Ways, Followed, follow, ways_last, moves_still, way_ended}
use Rattle.world.proofs.Cutting.{entries_of, entries_below, AreBelow}
use Rattle.world.specs.Campaigns.{IsCampaign}

take-snoc : (ls : List Letter) (n : ℕ) (l : Letter) → slice_get ls n ≡ Some l → take (suc n) ls ≡ take n ls ++ l ∷ []
take-snoc [] n l e = cc
take-snoc (x ∷ ls) zero l e = (let f : x ≡ l = cc in ap (λ y. y ∷ []) f)
take-snoc (x ∷ ls) (suc n) l e = ap (λ ys. x ∷ ys) (take-snoc ls n l e)

-- States that an activation has ended as its general's letter says.
abbrev pub Tells : List Letter → ℕ → Activation → Type 0
Tells letters g end = (l : Letter) → slice_get letters g ≡ Some l → (l.steps ≡ end.state.steps) × (l.outbox.rows ≡ end.state.outbox) × (l.exited ≡ end.over) × (l.outbox.entries ≡ end.state.entries)

letter_within : (ls : List Letter) (g : ℕ) → g < length ls → (l : Letter) × (slice_get ls g ≡ Some l)
letter_within [] g lt = absurd (omega arith)
letter_within (l ∷ ls) zero lt = (l, refl)
letter_within (l ∷ ls) (suc g) lt = letter_within ls g (omega arith)

-- Lists of single letters, joined in order.
each_is : (letters : List Letter) (f : ℕ → List Letter) → ((g : ℕ) (l : Letter) → slice_get letters g ≡ Some l → f g ≡ l ∷ []) → (n : ℕ) → n ≤ length letters → each n f ≡ take n letters
each_is letters f h zero le = refl
each_is letters f h (suc n) le =
    let l = letter_within letters n (omega arith) in
    (λ i. each_is letters f h n (omega arith) i ++ h n l.0 l.1 i) ∙ sym (take-snoc letters n l.0 l.1)

module _ (K : Kind) where
  module _ (s : Scenario) (closed : List (List Letter)) (piece : List Access) (letters : List Letter) (round : IsAccountedRound K s closed piece letters) where
    -- Each general has a letter.
    his : (g : ℕ) → g < s.generals → (l : Letter) × (slice_get letters g ≡ Some l)
    his g lt = letter_within letters g (let c = round.count in omega arith)

    way_begins : (g : ℕ) (o : Option (List Insn)) → program_of s g ≡ o → g < s.generals → Ways K (Tells letters) piece g (begins K s closed g o)
    way_begins g None e lt = tt
    way_begins g (Some program) e lt =
        let l = (his g lt).0 in
        let at = (his g lt).1 in
        let both = round.each g l at in
        let A : Option (List Insn) → Type 0 = λ o. IsLetterOf K s closed g o l in
        let is = subst A e both.0 in
        let start = started None program (K.context s closed g) (K.relay s closed g) in
        let steps : l.steps ≡ is.0.state.steps = (let n = runs_steps l.steps start l.transcript is.0 is.1 in omega arith) in
        let ended : l.exited ≡ is.0.over = ap (λ (x : Letter). x.exited) is.2 in
        record {
          k = l.steps;
          end = under s.patience is.0;
          runs = (let B : List Access → Type 0 = λ t. Runs l.steps (started s.patience program (K.context s closed g) (K.relay s closed g)) t (under s.patience is.0) in
              subst B (sym both.1) (runs_under s.patience l.steps start l.transcript is.0 (let W : ℕ → Type 0 = λ n. IsWithin s.patience n in subst W steps is.3) is.1));
          over = (λ i. sym ended i || is_reached s.patience (sym steps i)) ∙ is.4;
          is = λ m there.
              let same : l ≡ m = (let f = sym at ∙ there in cc) in (
                ap (λ (x : Letter). x.steps) (sym same) ∙ steps,
                ap (λ (x : Letter). x.outbox.rows) (sym same) ∙ ap (λ (x : Letter). x.outbox.rows) is.2,
                ap (λ (x : Letter). x.exited) (sym same) ∙ ended,
                ap (λ (x : Letter). x.outbox.entries) (sym same) ∙ ap (λ (x : Letter). x.outbox.entries) is.2,
              );
        }

    pub ways_begin : (b : Bool) → AllParts (Ways K (Tells letters) piece) (cond b (each s.generals (λ g. begins K s closed g (program_of s g) ∷ [])) [])
    ways_begin true g part e =
        let h = each-get_only s.generals (λ g. begins K s closed g (program_of s g)) g part e in
        (let A : Progress → Type 0 = λ p. Ways K (Tells letters) piece g p in subst A (sym h.1) (way_begins g (program_of s g) refl h.0))
    ways_begin false g part e = cc

    of_has : (front rest : List Access) (x : Access) → accesses_of x.general (front ++ x ∷ rest) ≡ [] → ⊥
    of_has [] rest x e = (let f = sym (of_first x.general x rest refl) ∙ e in cc)
    of_has (y ∷ front) rest x e = by (y.general == x.general) (of_has front rest x) e
      where
        by : (b : Bool) → (accesses_of x.general (front ++ x ∷ rest) ≡ [] → ⊥) → cond b (y ∷ accesses_of x.general (front ++ x ∷ rest)) (accesses_of x.general (front ++ x ∷ rest)) ≡ [] → ⊥
        by true again h = cc
        by false again h = again h

    -- A general who makes an access is a traitor, since a loyal general makes none.
    acts_one : (front rest : List Access) (x : Access) → piece ≡ front ++ x ∷ rest → x.general < s.generals → (o : Option (List Insn)) → program_of s x.general ≡ o →
        (a : Activation) × (begins K s closed x.general o ≡ Acting a)
    acts_one front rest x e lt None is =
        let l = (his x.general lt).0 in
        let both = round.each x.general l (his x.general lt).1 in
        let A : Option (List Insn) → Type 0 = λ o. IsLetterOf K s closed x.general o l in
        let loyal : l ≡ loyal_letter K s closed x.general = subst A is both.0 in
        let none : accesses_of x.general piece ≡ [] = both.1 ∙ ap (λ (m : Letter). m.transcript) loyal in
        absurd (of_has front rest x (ap (accesses_of x.general) (sym e) ∙ none))
    acts_one front rest x e lt (Some program) is = (started s.patience program (K.context s closed x.general) (K.relay s closed x.general), refl)

    acts_from : (parts : List Progress) → ((g : ℕ) → g < s.generals → slice_get parts g ≡ Some (begins K s closed g (program_of s g)))
        → (front rest : List Access) → piece ≡ front ++ rest → AreBelow s.generals rest → Act parts rest
    acts_from parts at front [] e below = tt
    acts_from parts at front (x ∷ rest) e below =
        let a = acts_one front rest x e below.0 (program_of s x.general) refl in (
          (a.0, at x.general below.0 ∙ ap Some a.1),
          acts_from parts at (front ++ x ∷ []) rest (e ∙ sym (append_assoc front (x ∷ []) rest)) below.1,
        )

    pub acts_begin : (b : Bool) → b ≡ true → Act (cond b (each s.generals (λ g. begins K s closed g (program_of s g) ∷ [])) []) piece
    acts_begin true e = acts_from (each s.generals (λ g. begins K s closed g (program_of s g) ∷ [])) (λ g lt. each-get s.generals (λ g. begins K s closed g (program_of s g)) g lt) [] piece refl (entries_below s.generals (suc (length closed)) piece round.entries)
    acts_begin false e = absurd (let f : false ≡ true = e in cc)

  -- The letter of an activation that has ended, and the letter of a loyal general.
  letter_acting : (s : Scenario) (closed : List (List Letter)) (piece ledger : List Access) (w : World) (g : ℕ) (l : Letter) (a : Activation) (o : Option (List Insn)) → program_of s g ≡ o → Fits o (Acting a)
      → w.scenario ≡ s → w.closed ≡ closed → drop w.opened w.ledger ≡ piece → IsLetterOf K s closed g o l → accesses_of g piece ≡ l.transcript → (l.steps ≡ a.state.steps) × (l.outbox.rows ≡ a.state.outbox) × (l.exited ≡ a.over) × (l.outbox.entries ≡ a.state.entries)
      → letters_at K w g (Some (Acting a)) ≡ l ∷ []
  letter_acting s closed piece ledger w g l a None is fits sc cl op letter tr end = absurd fits
  letter_acting s closed piece ledger w g l a (Some program) is fits sc cl op letter tr end =
      let made : l ≡ record { general = g; round = suc (length closed); context = K.context s closed g; program = Some program; transcript = l.transcript; steps = l.steps; outbox = record { relay = K.relay s closed g; rows = letter.0.state.outbox; entries = letter.0.state.entries }; exited = letter.0.over } = letter.2 in
      let outbox : a.state.outbox ≡ letter.0.state.outbox = sym end.1 ∙ ap (λ (m : Letter). m.outbox.rows) made in
      let entries : a.state.entries ≡ letter.0.state.entries = sym end.3 ∙ ap (λ (m : Letter). m.outbox.entries) made in
      let program_is : program_of w.scenario g ≡ Some program = ap (λ (v : Scenario). program_of v g) sc ∙ is in
      (λ i. record {
        general = g;
        round = suc (length (cl i));
        context = K.context (sc i) (cl i) g;
        program = program_is i;
        transcript = (ap (accesses_of g) op ∙ tr) i;
        steps = (sym end.0) i;
        outbox = record { relay = K.relay (sc i) (cl i) g; rows = outbox i; entries = entries i };
        exited = (sym end.2 ∙ ap (λ (m : Letter). m.exited) made) i;
      } ∷ []) ∙ ap (λ (m : Letter). m ∷ []) (sym made)

  letter_posted : (s : Scenario) (closed : List (List Letter)) (w : World) (g : ℕ) (l : Letter) (o : Option (List Insn)) → Fits o Posted → w.scenario ≡ s → w.closed ≡ closed → IsLetterOf K s closed g o l
      → letters_at K w g (Some Posted) ≡ l ∷ []
  letter_posted s closed w g l None fits sc cl letter = (λ i. loyal_letter K (sc i) (cl i) g ∷ []) ∙ ap (λ (m : Letter). m ∷ []) (sym letter)
  letter_posted s closed w g l (Some program) fits sc cl letter = absurd fits

  -- A world whose activations have ended as the letters say has these letters.
  pub letters_again : (s : Scenario) (closed : List (List Letter)) (piece : List Access) (letters : List Letter) → IsAccountedRound K s closed piece letters → (w : World) → w.scenario ≡ s → w.closed ≡ closed
      → drop w.opened w.ledger ≡ piece → length w.parts ≡ s.generals → IsKept K w → IsRipe w → AllParts (Ways K (Tells letters) []) w.parts → round_letters K w ≡ letters
  letters_again s closed piece letters round w sc cl op count k ripe ways =
      let f : ℕ → List Letter = λ g. letters_at K w g (slice_get w.parts g) in
      let one : (g : ℕ) (l : Letter) → slice_get letters g ≡ Some l → f g ≡ l ∷ [] = (λ g l at.
      let lt : g < length letters = slice_get_within letters g l at in
      let p = part_within w.parts g (let c = round.count in omega arith) in
      let A : Scenario → Type 0 = λ t. Fits (program_of t g) p.0 in
      ap (letters_at K w g) p.1 ∙ by g l at p.0 p.1 (subst A sc (k.parts g p.0 p.1).1)) in
      ap (λ (n : ℕ). each n f) (ap (λ (t : Scenario). t.generals) sc ∙ sym round.count) ∙ (each_is letters f one (length letters) (omega arith) ∙ take_all (length letters) letters (omega arith))
    where
      by : (g : ℕ) (l : Letter) → slice_get letters g ≡ Some l → (part : Progress) → slice_get w.parts g ≡ Some part → Fits (program_of s g) part → letters_at K w g (Some part) ≡ l ∷ []
      by g l at (Acting a) is fits =
          let both = round.each g l at in
          let ends : Tells letters g a = way_ended K (Tells letters) g a (ripe.ended_all g (Acting a) is) (ways g (Acting a) is) in
          letter_acting s closed piece w.ledger w g l a (program_of s g) refl fits sc cl op both.0 both.1 (ends l at)
      by g l at Silent is fits = absurd (let f : false ≡ true = ripe.posted_all g Silent is in cc)
      by g l at Posted is fits = letter_posted s closed w g l (program_of s g) fits sc cl (round.each g l at).0

  -- When the accesses are named, the round has the same letters and the same piece of the ledger again.
  pub round_again : (s : Scenario) → IsCampaign K s → (closed : List (List Letter)) (words : List ℕ) (ledger piece : List Access) (letters : List Letter)
      → IsOnTime K s (begun K s closed words ledger true) → length closed < suc s.bound → IsLegal words piece → IsAccountedRound K s closed piece letters
      → run K (begun K s closed words ledger true) (names_events K (begun K s closed words ledger true) (map (λ a. a.general) piece) ++ wound_up s)
      ≡ begun K s (closed ++ letters ∷ []) (words_after words piece) (ledger ++ piece) true
  unfolding posts ends
  round_again s is closed words ledger piece letters d less legal round =
      let w = begun K s closed words ledger true in
      let E = Tells letters in
      let more : round_open s closed ≡ true = lt-ltb (length closed) (suc s.bound) less in
      let es = names_events K w (map (λ a. a.general) piece) in
      let i1 = names_moves K (map (λ a. a.general) piece) w in
      let F : Followed K E w piece (run K w es) = follow K E s piece w d.kept.board d.due legal (entries_of s.generals (suc (length closed)) piece round.entries) (acts_begin s closed piece letters round (round_open s closed) more)
      (ways_begin s closed piece letters round (round_open s closed)) in
      let w1 = run K w es in
      let d1 = moves_due K s es w i1 d in
      let w2 = run K w1 (posts s) in
      let d2 = moves_due K s (posts s) w1 (posts_moves s) d1 in
      let w3 = run K w2 (ends s) in
      let d3 = moves_due K s (ends s) w2 (ends_moves s) d2 in
      let ripe = ripens K s w1 d1.scenario d1.kept d1.due in
      let same = then_same w w1 w3 (moves_same K es w i1) (then_same w1 w2 w3 (moves_same K (posts s) w1 (posts_moves s)) (moves_same K (ends s) w2 (ends_moves s))) in
      let still2 = moves_still K E (posts s) w1 (posts_moves s) d1.kept.board F.ways in
      let ways2 = moves_keep K (Ways K E []) (ways_last K E) (posts s) w1 (posts_moves s) d1.kept.board F.ways in
      let still3 = moves_still K E (ends s) w2 (ends_moves s) d2.kept.board ways2 in
      let ways3 = moves_keep K (Ways K E []) (ways_last K E) (ends s) w2 (ends_moves s) d2.kept.board ways2 in
      let ledger_is : w3.ledger ≡ ledger ++ piece = still3.0 ∙ (still2.0 ∙ F.ledger) in
      let words_are : w3.words ≡ words_after words piece = still3.1 ∙ (still2.1 ∙ F.words) in
      let cut : drop w3.opened w3.ledger ≡ piece = (λ i. drop (same.opened i) (ledger_is i)) ∙ drop-append_seam ledger piece in
      let counted : length w3.parts ≡ s.generals = same.count ∙ (ap (λ b. length (cond b (each s.generals (λ g. begins K s closed g (program_of s g) ∷ [])) [])) more ∙ each-length s.generals (λ g. begins K s closed g (program_of s g))) in
      let letters_are : round_letters K w3 ≡ letters = letters_again s closed piece letters round w3 d3.scenario same.closed cut counted d3.kept ripe ways3 in
      let full_is : (w3.full && list_all owes_no_letter w3.parts) ≡ true = ap (λ b. b && list_all owes_no_letter w3.parts) same.full ∙ all_posted w3.parts ripe.posted_all in
      let all = posts s ++ (ends s ++ Close ∷ []) in
      let there : run K w1 all ≡ happen K w3 Close = run-append K (posts s) (ends s ++ Close ∷ []) w1 ∙ run-append K (ends s) (Close ∷ []) w2 in
      let open3 : round_open w3.scenario w3.closed ≡ true = (λ i. round_open (d3.scenario i) (same.closed i)) ∙ more in
      run-append K es all w ∙ (there ∙ (close_open K w3 open3 ∙ (λ i. begun K (d3.scenario i) (same.closed i ++ letters_are i ∷ []) (words_are i) (ledger_is i) (full_is i))))
