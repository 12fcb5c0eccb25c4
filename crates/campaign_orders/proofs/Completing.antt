-- The accesses of a replay: in each round first those of the names, and then those of the others, by general.
use Rattle.std.proofs.Common.{◌≡◌, ℕ, zero, suc, ◌+◌, ◌<◌, List, [], ◌∷◌, ◌++◌, length, map, Bool, true, false, cond, refl, sym, ap, subst, ◌∙◌, inl, inr, ⊎_elim, Option, Some, None, append_assoc, append-nil, arith}
use Rattle.std.specs.Prelude.{slice_get, replicate}
use Rattle.std.proofs.lemmas.List.{map-append}
use Rattle.insn.specs.declared.insn.Insn.{Insn}
use Rattle.board.specs.Board.{Access, reply}
use Rattle.round.specs.Scenario.{Scenario, program_of}
use Rattle.round.specs.Letters.{Letter}
use Rattle.round.specs.Activation.{Turn, Goes, Asks, Ended, turn}
use Rattle.world.specs.declared.event.Event.{Event}
use Rattle.world.specs.declared.event.Event.TheVariants.{Tick, Close}
use Rattle.world.specs.declared.part.Progress.{Progress}
use Rattle.world.specs.declared.part.Progress.TheVariants.{Acting, Silent, Posted}
use Rattle.world.specs.Kind.{Kind, World, each, round_open, served, ticked, posting, closing, happen, run}
use Rattle.world.specs.KindLists.{ticks_named, names_events, wound_up, post_of, ticks_of, replayed_rounds, names_in, first_line, later_lines}
use Rattle.world.specs.Campaigns.{IsCampaign}
use Rattle.world.proofs.Moves.{moves_same, run-append}
use Rattle.world.proofs.Lasting.{IsOnTime, named_moves, names_moves, RoundDone, round_done}
use Rattle.world.proofs.Following.{AreOf}
use Rattle.world.proofs.Cutting.{AreFrom, filter_here, names_skip, of_from, from-append, from_later}
use Rattle.campaign_orders.specs.Orders.{behind}
use Rattle.campaign_orders.specs.Listing.{Has}
use Rattle.campaign_orders.specs.Walks.{IsWalk, AreWalks, IsAscending, Continues, IsCompletion}
use Rattle.campaign_orders.proofs.Having.{has-append_of, ascending-append, ascending_one}
use Rattle.campaign_orders.proofs.Asking.{past_by}

abbrev pub generals_of : List Access → List ℕ
generals_of piece = map (λ a. a.general) piece

of-append : (r : ℕ) (xs ys : List Access) → AreOf r xs → AreOf r ys → AreOf r (xs ++ ys)
of-append r [] ys a b = b
of-append r (x ∷ xs) ys a b = (a.0, of-append r xs ys a.1 b)

-- Some more accesses of a round.
pub record More (w v : World) : Type 0 where
  pub piece : List Access
  pub ledger : v.ledger ≡ w.ledger ++ piece
  pub in_round : AreOf (suc (length w.closed)) piece
  pub closed : v.closed ≡ w.closed

abbrev no_more : (w v : World) → v.ledger ≡ w.ledger → v.closed ≡ w.closed → More w v
no_more w v e c = record { piece = []; ledger = e ∙ sym (append-nil w.ledger); in_round = tt; closed = c }

abbrev then_more : (u v w : World) → More u v → More v w → More u w
then_more u v w a b = record {
  piece = a.piece ++ b.piece;
  ledger = b.ledger ∙ (ap (λ (l : List Access). l ++ b.piece) a.ledger ∙ append_assoc u.ledger a.piece b.piece);
  in_round = of-append (suc (length u.closed)) a.piece b.piece a.in_round (let A : List (List Letter) → Type 0 = λ c. AreOf (suc (length c)) b.piece in subst A a.closed b.in_round);
  closed = b.closed ∙ a.closed;
}

-- States that all these accesses are of one general.
abbrev Own : ℕ → List Access → Type 0
Own g piece = (y : ℕ) → Has (generals_of piece) y → y ≡ g

own-append : (g : ℕ) (a b : List Access) → Own g a → Own g b → Own g (a ++ b)
own-append g [] b p q = q
own-append g (x ∷ a) b p q = λ y h. ⊎_elim (λ e. p y (inl e)) (λ k. own-append g a b (λ z j. p z (inr j)) q y k) h

abbrev MoreOf : World → World → ℕ → Type 0
MoreOf w v g = (m : More w v) × Own g m.piece

served_more : (w : World) (g : ℕ) (o : Turn) → MoreOf w (served w g o) g
served_more w g (Goes a) = (no_more w (served w g (Goes a)) refl refl, λ y h. absurd h)
served_more w g (Asks q f) =
    let made : Access = record { general = g; round = suc (length w.closed); request = q; reply = reply w.words q } in
    (record { piece = made ∷ []; ledger = refl; in_round = (refl, tt); closed = refl }, λ y h. ⊎_elim (λ e. sym e) (λ k. absurd k) h)
served_more w g Ended = (no_more w w refl refl, λ y h. absurd h)

ticked_more : (w : World) (g : ℕ) (o : Option Progress) → MoreOf w (ticked w g o) g
ticked_more w g None = (no_more w w refl refl, λ y h. absurd h)
ticked_more w g (Some (Acting a)) = served_more w g (turn a)
ticked_more w g (Some Silent) = (no_more w w refl refl, λ y h. absurd h)
ticked_more w g (Some Posted) = (no_more w w refl refl, λ y h. absurd h)

-- States that a post makes no access.
abbrev Quietly : World → World → Type 0
Quietly w v = (v.ledger ≡ w.ledger) × (v.closed ≡ w.closed)

posting_quietly : (w : World) (g : ℕ) (o : Option Progress) → Quietly w (posting w g o)
posting_quietly w g None = (refl, refl)
posting_quietly w g (Some (Acting a)) = (refl, refl)
posting_quietly w g (Some Silent) = (refl, refl)
posting_quietly w g (Some Posted) = (refl, refl)

-- States that the accesses are ascending by general, and only of generals below `n`.
abbrev Ending : ℕ → List Access → Type 0
Ending n piece = IsAscending (generals_of piece) × ((y : ℕ) → Has (generals_of piece) y → y < n)

ending-append : (n : ℕ) (a b : List Access) → Ending n a → Own n b → Ending (suc n) (a ++ b)
ending-append n a b e own =
    let A : List ℕ → Type 0 = λ l. IsAscending l × ((y : ℕ) → Has l y → y < suc n) in
    subst A (sym (map-append (λ (x : Access). x.general) a b)) (
      ascending-append (generals_of a) (generals_of b) e.0 (ascending_one n (generals_of b) own) (λ x y h k. (let l = e.1 x h in let m = own y k in omega arith)),
      λ y h. ⊎_elim (λ k. (let l = e.1 y k in omega arith)) (λ k. (let l = own y k in omega arith)) (has-append_of (generals_of a) (generals_of b) y h),
    )

-- The accesses made when a round is finished.
pub record Wound (w v : World) : Type 0 where
  pub piece : List Access
  pub ledger : v.ledger ≡ w.ledger ++ piece
  pub in_round : AreOf (suc (length w.closed)) piece
  pub ascending : IsAscending (generals_of piece)

-- A round in which the named generals make their accesses first.
pub record Round (w v : World) (names : List ℕ) : Type 0 where
  pub piece : List Access
  pub ledger : v.ledger ≡ w.ledger ++ piece
  pub in_round : AreOf (suc (length w.closed)) piece
  pub continues : Continues names (generals_of piece)

-- The same for `k` rounds.
pub record Completed (w v : World) (k : ℕ) (names : List (List ℕ)) : Type 0 where
  pub later : List Access
  pub ledger : v.ledger ≡ w.ledger ++ later
  pub completion : IsCompletion names (names_in (suc (length w.closed)) later k)
  pub from : AreFrom (suc (length w.closed)) later

module _ (K : Kind) where
  ticks_more : (n : ℕ) (w : World) (g : ℕ) → MoreOf w (run K w (replicate n (Tick g))) g
  ticks_more zero w g = (no_more w w refl refl, λ y h. absurd h)
  ticks_more (suc n) w g =
      let v = happen K w (Tick g) in
      let one : MoreOf w v g = ticked_more w g (slice_get w.parts g) in
      let more = ticks_more n v g in
      (then_more w v (run K v (replicate n (Tick g))) one.0 more.0, own-append g one.0.piece more.0.piece one.1 more.1)

  of_program : (g : ℕ) (o : Option (List Insn)) (w : World) → MoreOf w (run K w (ticks_of g o)) g
  of_program g None w = (no_more w w refl refl, λ y h. absurd h)
  of_program g (Some p) w = ticks_more (length p) w g

  ends_more : (s : Scenario) (n : ℕ) (w : World) → (m : More w (run K w (each n (λ g. ticks_of g (program_of s g))))) × Ending n m.piece
  ends_more s zero w = (no_more w w refl refl, (tt, λ y h. absurd h))
  ends_more s (suc n) w =
      let f : ℕ → List Event = λ g. ticks_of g (program_of s g) in
      let e = ends_more s n w in
      let v = run K w (each n f) in
      let u = run K v (f n) in
      let t = of_program n (program_of s n) v in
      let A : World → Type 0 = λ x. (m : More w x) × Ending (suc n) m.piece in
      subst A (sym (run-append K (each n f) (f n) w)) (then_more w v u e.0 t.0, ending-append n e.0.piece t.0.piece e.1 t.1)

  post_quietly : (g : ℕ) (o : Option (List Insn)) (w : World) → Quietly w (run K w (post_of g o))
  post_quietly g None w = posting_quietly w g (slice_get w.parts g)
  post_quietly g (Some p) w = (refl, refl)

  posts_quietly : (s : Scenario) (n : ℕ) (w : World) → Quietly w (run K w (each n (λ g. post_of g (program_of s g))))
  posts_quietly s zero w = (refl, refl)
  posts_quietly s (suc n) w =
      let f : ℕ → List Event = λ g. post_of g (program_of s g) in
      let e = posts_quietly s n w in
      let v = run K w (each n f) in
      let t = post_quietly n (program_of s n) v in
      let A : World → Type 0 = λ x. Quietly w x in
      subst A (sym (run-append K (each n f) (f n) w)) (t.0 ∙ e.0, t.1 ∙ e.1)

  close_keeps : (w : World) (b : Bool) → (cond b (closing K w) w).ledger ≡ w.ledger
  close_keeps w true = refl
  close_keeps w false = refl

  wound : (s : Scenario) (w : World) → Wound w (run K w (wound_up s))
  wound s w =
      let posts : List Event = each s.generals (λ g. post_of g (program_of s g)) in
      let ends : List Event = each s.generals (λ g. ticks_of g (program_of s g)) in
      let w2 = run K w posts in
      let w3 = run K w2 ends in
      let p = posts_quietly s s.generals w in
      let e = ends_more s s.generals w2 in
      let there : run K w (posts ++ (ends ++ Close ∷ [])) ≡ happen K w3 Close = run-append K posts (ends ++ Close ∷ []) w ∙ run-append K ends (Close ∷ []) w2 in
      let last : (happen K w3 Close).ledger ≡ w3.ledger = close_keeps w3 (round_open w3.scenario w3.closed) in
      let A : List (List Letter) → Type 0 = λ c. AreOf (suc (length c)) e.0.piece in
      record {
        piece = e.0.piece;
        ledger = ap (λ (x : World). x.ledger) there ∙ (last ∙ (e.0.ledger ∙ ap (λ (l : List Access). l ++ e.0.piece) p.0));
        in_round = subst A p.1 e.0.in_round;
        ascending = e.1.0;
      }

  first_walks : (names : List (List ℕ)) (w : World) → AreWalks K w names → IsWalk K w (first_line names) × AreWalks K (behind K w (first_line names)) (later_lines names)
  first_walks [] w h = (tt, tt)
  first_walks (line ∷ names) w h = h

  walked : (names : List ℕ) (w : World) → IsWalk K w names → (m : More w (run K w (names_events K w names))) × (generals_of m.piece ≡ names)
  walked [] w h = (no_more w w refl refl, refl)
  walked (g ∷ names) w h =
      let ticks = ticks_named g (slice_get w.parts g) in
      let v = run K w ticks in
      let one = past_by K w g (slice_get w.parts g) refl h.0 in
      let first : More w v = record { piece = one.made ∷ []; ledger = one.ledger; in_round = (one.round, tt); closed = (moves_same K ticks w (named_moves g (slice_get w.parts g))).closed } in
      let r = walked names v h.1 in
      let V = run K v (names_events K v names) in
      let A : World → Type 0 = λ x. (m : More w x) × (generals_of m.piece ≡ g ∷ names) in
      subst A (sym (run-append K ticks (names_events K v names) w)) (then_more w v V first r.0, λ i. one.general i ∷ r.1 i)

  pub round_adds : (names : List ℕ) (w : World) → IsWalk K w names → Round w (behind K w names) names
  round_adds names w h =
      let es = names_events K w names in
      let v = run K w es in
      let m = walked names w h in
      let e = wound w.scenario v in
      let A : List (List Letter) → Type 0 = λ c. AreOf (suc (length c)) e.piece in
      record {
        piece = m.0.piece ++ e.piece;
        ledger = ap (λ (x : World). x.ledger) (run-append K es (wound_up w.scenario) w) ∙ (e.ledger ∙ (ap (λ (l : List Access). l ++ e.piece) m.0.ledger ∙ append_assoc w.ledger m.0.piece e.piece));
        in_round = of-append (suc (length w.closed)) m.0.piece e.piece m.0.in_round (subst A m.0.closed e.in_round);
        continues = (generals_of e.piece, map-append (λ (x : Access). x.general) m.0.piece e.piece ∙ ap (λ (l : List ℕ). l ++ generals_of e.piece) m.1, e.ascending);
      }

  pub completes : (s : Scenario) → IsCampaign K s → (k : ℕ) (names : List (List ℕ)) (w : World) → IsOnTime K s w → length w.closed + k ≡ suc s.bound → AreWalks K w names → Completed w (run K w (replayed_rounds K w k names)) k names
  completes s is zero names w d e h = record { later = []; ledger = sym (append-nil w.ledger); completion = tt; from = tt }
  completes s is (suc k) names w d e h =
      let here = first_line names in
      let rest = later_lines names in
      let es = names_events K w here in
      let A : Scenario → Type 0 = λ t. RoundDone K s w (es ++ wound_up t) in
      let done = subst A (sym d.scenario) (round_done K s is es w (names_moves K here w) d (omega arith)) in
      let u = behind K w here in
      let walks = first_walks names w h in
      let n = round_adds here w walks.0 in
      let r = completes s is k rest u done.due (let o = done.one_more in omega arith) walks.1 in
      let R = suc (length w.closed) in
      let long : length u.closed ≡ R = done.one_more in
      let F : ℕ → Type 0 = λ m. AreFrom (suc m) r.later in
      let from : AreFrom (suc R) r.later = subst F long r.from in
      let first = filter_here R n.piece r.later n.in_round from in
      let rows : names_in R (n.piece ++ r.later) (suc k) ≡ generals_of n.piece ∷ names_in (suc (length u.closed)) r.later k =
      (λ i. map (λ a. a.general) (first i) ∷ (names_skip k R (suc R) n.piece r.later n.in_round (omega arith) ∙ ap (λ (m : ℕ). names_in (suc m) r.later k) (sym long)) i) in
      let C : List (List ℕ) → Type 0 = λ l. IsCompletion names l in
      let V = run K u (replayed_rounds K u k rest) in
      let one : Completed w V (suc k) names = record {
        later = n.piece ++ r.later;
        ledger = r.ledger ∙ (ap (λ (l : List Access). l ++ r.later) n.ledger ∙ append_assoc w.ledger n.piece r.later);
        completion = subst C (sym rows) (n.continues, r.completion);
        from = from-append R n.piece r.later (of_from R n.piece n.in_round) (from_later R (suc R) r.later (omega arith) from);
      } in
      let B : World → Type 0 = λ v. Completed w v (suc k) names in
      subst B (sym (run-append K (es ++ wound_up w.scenario) (replayed_rounds K u k rest) w)) one
