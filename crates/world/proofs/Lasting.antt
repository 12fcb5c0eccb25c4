-- The events of schedules and replays, round by round.
use Rattle.std.proofs.Common.{◌≡◌, ℕ, zero, suc, ◌+◌, ◌<◌, ◌≤◌, List, [], ◌∷◌, ◌++◌, length, map, true, refl, sym, ap, subst, ◌∙◌, Option, Some, None, arith, length-append, append_assoc}
use Rattle.std.specs.Prelude.{slice_get, nat_lt, filter}
use Rattle.std.proofs.lemmas.Bool.{lt-ltb, ltb-true}
use Rattle.insn.specs.declared.insn.Insn.{Insn}
use Rattle.world.specs.declared.event.Event.{Event}
use Rattle.world.specs.declared.event.Event.TheVariants.{Close}
use Rattle.round.specs.Scenario.{Scenario, program_of}
use Rattle.world.specs.Part.{Progress, Acting, Silent, Posted}
use Rattle.world.specs.Kind.{Kind, World, begun, opening, round_open, round_letters, closing, happen, run}
use Rattle.world.specs.KindLists.{first_line, later_lines, Throughout, AtClose, OwesNoLetter, HasEnded, IsComplete, wound_up, event_of, listed_rounds, listed, ticks_named, names_events, replayed_rounds, replayed, IsMove, AreMoves}
use Rattle.world.specs.Replay.{ListsAreComplete}
use Rattle.world.proofs.Kept.{IsKept}
use Rattle.world.proofs.Moves.{moves-append, moves_same, run-append, AllParts, moves_keep}
use Rattle.world.proofs.Rounds.{run_kept, opening_kept, happen_kept}
use Rattle.world.proofs.Due.{Due, due_lasts, due_parts}
use Rattle.world.proofs.Complete.{throughout-append, moves_throughout, posts, ends, posts_moves, ends_moves, ripens, ticks_are_moves}
use Rattle.world.specs.Campaigns.{IsCampaign, AreCampaigns}

abbrev IsOpen : World → Type 0
IsOpen w = round_open w.scenario w.closed ≡ true

pub few : (k m : ℕ) → nat_lt k (suc m) ≡ true → k ≤ m
few k m e = let lt = ltb-true k (suc m) e in omega arith

entry_moves : (s : Scenario) (gs : List ℕ) → AreMoves (map (λ g. event_of g (program_of s g)) gs)
entry_moves s [] = tt
entry_moves s (g ∷ gs) = (one (program_of s g), entry_moves s gs)
  where
    one : (o : Option (List Insn)) → IsMove (event_of g o)
    one None = tt
    one (Some p) = tt

pub named_moves : (g : ℕ) (part : Option Progress) → AreMoves (ticks_named g part)
named_moves g None = tt
named_moves g (Some (Acting a)) = ticks_are_moves _ g
named_moves g (Some Silent) = tt
named_moves g (Some Posted) = tt

module _ (K : Kind) where
  -- A world of the scenario whose activations end in time.
  pub record IsOnTime (s : Scenario) (w : World) : Type 0 where
    pub scenario : w.scenario ≡ s
    pub kept : IsKept K w
    pub due : AllParts (Due s) w.parts

  pub moves_due : (s : Scenario) (es : List Event) (w : World) → AreMoves es → IsOnTime s w → IsOnTime s (run K w es)
  moves_due s es w i d = record { scenario = (moves_same K es w i).scenario ∙ d.scenario; kept = run_kept K es w d.kept; due = moves_keep K (Due s) (due_lasts s) es w i d.kept.board d.due }

  pub opening_due : (s : Scenario) → IsCampaign K s → IsOnTime s (opening K s)
  opening_due s sound = record { scenario = refl; kept = opening_kept K s sound.scenario.board; due = due_parts K s [] (round_open s []) sound (λ e. omega arith) }

  pub close_open : (w : World) → round_open w.scenario w.closed ≡ true → happen K w Close ≡ closing K w
  close_open w h = rw h refl

  -- The events of one round: moves, all posts, all ends and the close.
  pub record RoundDone (s : Scenario) (w : World) (es : List Event) : Type 0 where
    pub punctual : Throughout K (AtClose (OwesNoLetter)) w es
    pub ended : Throughout K (AtClose (HasEnded)) w es
    pub due : IsOnTime s (run K w es)
    pub one_more : length (run K w es).closed ≡ suc (length w.closed)

  pub round_done : (s : Scenario) → IsCampaign K s → (es : List Event) (w : World) → AreMoves es → IsOnTime s w → length w.closed < suc s.bound → RoundDone s w (es ++ wound_up s)
  unfolding posts ends
  round_done s sound es w i d less =
      let w1 = run K w es in
      let d1 = moves_due s es w i d in
      let w2 = run K w1 (posts s) in
      let w3 = run K w2 (ends s) in
      let d3 = moves_due s (ends s) w2 (ends_moves s) (moves_due s (posts s) w1 (posts_moves s) d1) in
      let ripe = ripens K s w1 d1.scenario d1.kept d1.due in
      let all = posts s ++ (ends s ++ Close ∷ []) in
      let there : run K w1 all ≡ happen K w3 Close = run-append K (posts s) (ends s ++ Close ∷ []) w1 ∙ run-append K (ends s) (Close ∷ []) w2 in
      let closed_is : w3.closed ≡ w.closed =
      (moves_same K (ends s) w2 (ends_moves s)).closed ∙ (moves_same K (posts s) w1 (posts_moves s)).closed ∙ (moves_same K es w i).closed in
      let more : IsOpen w3 = (let A : Scenario → Type 0 = λ t. nat_lt (length w3.closed) (suc t.bound) ≡ true in
      subst A (sym d3.scenario) (lt-ltb (length w3.closed) (suc s.bound) (let c = ap length closed_is in omega arith))) in
      let end : run K w (es ++ all) ≡ closing K w3 = run-append K es all w ∙ there ∙ close_open w3 more in
      let thus : (Q : Progress → Type 0) → AtClose Q w3 Close → Throughout K (AtClose Q) w (es ++ all) =
      (λ Q q. throughout-append K (AtClose Q) es all w (moves_throughout K Q es w i)
      (throughout-append K (AtClose Q) (posts s) (ends s ++ Close ∷ []) w1 (moves_throughout K Q (posts s) w1 (posts_moves s))
      (throughout-append K (AtClose Q) (ends s) (Close ∷ []) w2 (moves_throughout K Q (ends s) w2 (ends_moves s)) (q, tt)))) in
      let closing_due : IsOnTime s (closing K w3) = record {
        scenario = d3.scenario;
        kept = (let A : World → Type 0 = λ v. IsKept K v in subst A (close_open w3 more) (happen_kept K w3 Close d3.kept));
        due = (let A : Scenario → Type 0 = λ t. AllParts (Due s) (begun K t (w3.closed ++ round_letters K w3 ∷ []) w3.words w3.ledger true).parts in
            subst A (sym d3.scenario) (due_parts K s (w3.closed ++ round_letters K w3 ∷ []) (round_open s (w3.closed ++ round_letters K w3 ∷ [])) sound (λ e. few (length (w3.closed ++ round_letters K w3 ∷ [])) s.bound e)));
      } in
      record {
        punctual = thus (OwesNoLetter) ripe.posted_all;
        ended = thus (HasEnded) ripe.ended_all;
        due = (let A : World → Type 0 = λ v. IsOnTime s v in subst A (sym end) closing_due);
        one_more = ap (λ v. length v.closed) end ∙ (let l = length-append w3.closed (round_letters K w3 ∷ []) in let c = ap length closed_is in omega arith);
      }

  -- States that with these further events all rounds are closed in the end.
  pub record Ends (s : Scenario) (w : World) (es : List Event) : Type 0 where
    pub punctual : Throughout K (AtClose (OwesNoLetter)) w es
    pub ended : Throughout K (AtClose (HasEnded)) w es
    pub closed : length (run K w es).closed ≡ suc s.bound

  pub no_more : (s : Scenario) (w : World) → length w.closed ≡ suc s.bound → Ends s w []
  no_more s w e = record { punctual = tt; ended = tt; closed = e }

  pub one_then : (s : Scenario) (w : World) (es fs : List Event) → RoundDone s w es → Ends s (run K w es) fs → Ends s w (es ++ fs)
  one_then s w es fs a b = record {
    punctual = throughout-append K (AtClose (OwesNoLetter)) es fs w a.punctual b.punctual;
    ended = throughout-append K (AtClose (HasEnded)) es fs w a.ended b.ended;
    closed = ap (λ v. length v.closed) (run-append K es fs w) ∙ b.closed;
  }

  listed_ends : (s : Scenario) → IsCampaign K s → (k : ℕ) (lines : List (List ℕ)) (w : World) → IsOnTime s w → length w.closed + k ≡ suc s.bound → Ends s w (listed_rounds s k lines)
  listed_ends s sound zero lines w d e = no_more s w (omega arith)
  listed_ends s sound (suc k) lines w d e =
      let es = map (λ g. event_of g (program_of s g)) (filter (λ g. nat_lt g s.generals) (first_line lines)) in
      let r = round_done s sound es w (entry_moves s (filter (λ g. nat_lt g s.generals) (first_line lines))) d (omega arith) in
      (let A : List Event → Type 0 = λ fs. Ends s w fs in
      subst A (append_assoc es (wound_up s) (listed_rounds s k (later_lines lines)))
      (one_then s w (es ++ wound_up s) (listed_rounds s k (later_lines lines)) r
      (listed_ends s sound k (later_lines lines) (run K w (es ++ wound_up s)) r.due (let o = r.one_more in omega arith))))

  pub listed_complete : (s : Scenario) → IsCampaign K s → (lines : List (List ℕ)) → IsComplete K s (listed s lines)
  listed_complete s sound lines =
      let r = listed_ends s sound (suc s.bound) lines (opening K s) (opening_due s sound) (omega arith) in
      record { punctual = r.punctual; ended = r.ended; closed = r.closed }

  pub names_moves : (gs : List ℕ) (w : World) → AreMoves (names_events K w gs)
  names_moves [] w = tt
  names_moves (g ∷ gs) w =
      let es = ticks_named g (slice_get w.parts g) in
      moves-append es (names_events K (run K w es) gs) (named_moves g (slice_get w.parts g)) (names_moves gs (run K w es))

  replayed_ends : (s : Scenario) → IsCampaign K s → (k : ℕ) (names : List (List ℕ)) (w : World) → IsOnTime s w → length w.closed + k ≡ suc s.bound → Ends s w (replayed_rounds K w k names)
  replayed_ends s sound zero names w d e = no_more s w (omega arith)
  replayed_ends s sound (suc k) names w d e =
      let ns = names_events K w (first_line names) in
      let A : Scenario → Type 0 = λ t. RoundDone s w (ns ++ wound_up t) in
      let r = subst A (sym d.scenario) (round_done s sound ns w (names_moves (first_line names) w) d (omega arith)) in
      one_then s w (ns ++ wound_up w.scenario) (replayed_rounds K (run K w (ns ++ wound_up w.scenario)) k (later_lines names)) r
      (replayed_ends s sound k (later_lines names) (run K w (ns ++ wound_up w.scenario)) r.due (let o = r.one_more in omega arith))

  pub replayed_complete : (s : Scenario) → IsCampaign K s → (names : List (List ℕ)) → IsComplete K s (replayed K s names)
  replayed_complete s sound names =
      let r = replayed_ends s sound (suc s.bound) names (opening K s) (opening_due s sound) (omega arith) in
      record { punctual = r.punctual; ended = r.ended; closed = r.closed }

  pub lists_are_complete : AreCampaigns K → ListsAreComplete K
  lists_are_complete good = record {
    listed = λ s lines is. listed_complete s (good s is) lines;
    replayed = λ s names is. replayed_complete s (good s is) names;
  }
