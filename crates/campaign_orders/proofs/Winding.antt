-- If some accesses of a round are made and the round is then finished, the further accesses come by general, ascending.
use Rattle.std.proofs.Common.{◌≡◌, ℕ, suc, ◌<◌, List, [], ◌∷◌, ◌++◌, length, drop, true, false, cond, refl, sym, ap, subst, ◌∙◌, ⊎_elim, arith, ◌&&◌}
use Rattle.std.specs.List.{list_all}
use Rattle.std.proofs.lemmas.Bool.{lt-ltb}
use Rattle.std.proofs.Math.Seq.{drop-append_seam}
use Rattle.std.proofs.lemmas.List.{append_cancel_left}
use Rattle.board.specs.Board.{Access, words_after, IsLegal}
use Rattle.round.specs.Scenario.{Scenario, program_of}
use Rattle.round.specs.Letters.{Letter}
use Rattle.world.specs.declared.event.Event.{Event}
use Rattle.world.specs.declared.event.Event.TheVariants.{Close}
use Rattle.world.specs.Campaigns.{IsCampaign}
use Rattle.world.specs.Kind.{Kind, World, begins, begun, closing, each, happen, round_letters, round_open, run}
use Rattle.world.specs.KindAccounted.{IsAccountedRound}
use Rattle.world.specs.KindLists.{AreMoves, names_events}
use Rattle.world.specs.Part.{owes_no_letter}
use Rattle.world.proofs.Again.{round_again}
use Rattle.world.proofs.Complete.{posts, ends, posts_moves, ends_moves, ripens}
use Rattle.world.proofs.Lasting.{IsOnTime, close_open, moves_due, names_moves}
use Rattle.world.proofs.Listing.{each-length}
use Rattle.world.proofs.Made.{Accounts, Added, AreMade, added_first, move_added, round_accounts}
use Rattle.world.proofs.Moves.{move_same, moves_same, run-append, then_same}
use Rattle.world.proofs.Punctual.{all_posted}
use Rattle.world.proofs.Ways.{midst_first, moves_midst}
use Rattle.campaign_orders.specs.Listing.{Has}
use Rattle.campaign_orders.specs.Orders.{behind, past, IsRoundFrom}
use Rattle.campaign_orders.specs.Walks.{Continues, IsAscending, IsWalk}
use Rattle.campaign_orders.proofs.Completing.{generals_of, round_adds}
use Rattle.campaign_orders.proofs.Succeeding.{asker_comes}
use Rattle.campaign_orders.proofs.Walking.{round_walk}

module _ (K : Kind) where
  -- There is only one such order of the further accesses.
  by_number : (q r : List ℕ) (w : World) → IsRoundFrom K w q → IsRoundFrom K w r → IsAscending q → IsAscending r → q ≡ r
  by_number [] [] w h k a b = refl
  by_number [] (j ∷ r) w h k a b = absurd (let f : false ≡ true = sym (h j) ∙ k.0 in cc)
  by_number (g ∷ q) [] w h k a b = absurd (let f : false ≡ true = sym (k g) ∙ h.0 in cc)
  by_number (g ∷ q) (j ∷ r) w h k a b =
      let A : ℕ → Type 0 = λ x. IsRoundFrom K (past K w x) r in
      let e : g ≡ j = ⊎_elim
      (λ (p : g ≡ j). p)
      (λ (m : Has q j). ⊎_elim
      (λ (p : j ≡ g). sym p)
      (λ (n : Has r g). (let x = a.0 j m in let y = b.0 g n in omega arith))
      (asker_comes K (j ∷ r) w k g h.0))
      (asker_comes K (g ∷ q) w h j k.0) in
      (λ i. e i ∷ by_number q r (past K w g) h.1 (subst A (sym e) k.1) a.1 b.1 i)

  rest_by_number : (names q r : List ℕ) (w : World) → IsRoundFrom K w (names ++ q) → IsRoundFrom K w (names ++ r) → IsAscending q → IsAscending r → q ≡ r
  rest_by_number [] q r w h k a b = by_number q r w h k a b
  rest_by_number (g ∷ names) q r w h k a b = rest_by_number names q r (past K w g) h.1 k.1 a b

  pub completed_so : (names row other : List ℕ) (w : World) → IsRoundFrom K w row → IsRoundFrom K w other → Continues names row → Continues names other → row ≡ other
  completed_so names row other w h k a b =
      let A : List ℕ → Type 0 = λ l. IsRoundFrom K w l in
      a.1 ∙ (ap (λ (q : List ℕ). names ++ q) (rest_by_number names a.0 b.0 w (subst A a.1 h) (subst A b.1 k) a.2 b.2) ∙ sym b.1)

  module _ (s : Scenario) (sound : IsCampaign K s) (closed : List (List Letter)) (words : List ℕ) (ledger : List Access) (d : IsOnTime K s (begun K s closed words ledger true)) (less : length closed < suc s.bound) where
    abbrev first : World
    first = begun K s closed words ledger true

    moves_added : (es : List Event) (w : World) → AreMoves es → w.closed ≡ closed → IsOnTime K s w → Added K s first w → Added K s first (run K w es)
    moves_added [] w i c t a = a
    moves_added (e ∷ es) w i c t a =
        moves_added es (happen K w e) i.1 ((move_same K w e i.0).closed ∙ c) (moves_due K s (e ∷ []) w (i.0, tt) t) (move_added K s first w e i.0 c t a)

    -- The round with its letters.
    pub record Wound (names : List ℕ) : Type 0 where
      pub piece : List Access
      pub letters : List Letter
      pub is : behind K first names ≡ begun K s (closed ++ letters ∷ []) (words_after words piece) (ledger ++ piece) true
      pub round : IsAccountedRound K s closed piece letters
      pub legal : IsLegal words piece

    pub wound : (names : List ℕ) → Wound names
    unfolding posts ends
    wound names =
        let es = names_events K first names in
        let i1 = names_moves K names first in
        let w1 = run K first es in
        let d1 = moves_due K s es first i1 d in
        let w2 = run K w1 (posts s) in
        let d2 = moves_due K s (posts s) w1 (posts_moves s) d1 in
        let w = run K w2 (ends s) in
        let d3 = moves_due K s (ends s) w2 (ends_moves s) d2 in
        let ripe = ripens K s w1 d1.scenario d1.kept d1.due in
        let same1 = moves_same K es first i1 in
        let same2 = moves_same K (posts s) w1 (posts_moves s) in
        let same3 = moves_same K (ends s) w2 (ends_moves s) in
        let same = then_same first w1 w same1 (then_same w1 w2 w same2 same3) in
        let midst = moves_midst K first (ends s) w2 (ends_moves s) (moves_midst K first (posts s) w1 (posts_moves s) (moves_midst K first es first i1 (midst_first K first))) in
        let added = moves_added (ends s) w2 (ends_moves s) (same2.closed ∙ same1.closed) d2 (moves_added (posts s) w1 (posts_moves s) same1.closed d1 (moves_added es first i1 refl d (added_first K s first))) in
        let piece = midst.piece in
        let same_piece : added.piece ≡ piece = append_cancel_left ledger added.piece piece (sym added.ledger ∙ midst.ledger) in
        let more : round_open s closed ≡ true = lt-ltb (length closed) (suc s.bound) less in
        let op : drop w.opened w.ledger ≡ piece = (λ i. drop (same.opened i) (midst.ledger i)) ∙ drop-append_seam ledger piece in
        let counted : length w.parts ≡ s.generals = same.count ∙ (ap (λ b. length (cond b (each s.generals (λ g. begins K s closed g (program_of s g) ∷ [])) [])) more ∙ each-length s.generals (λ g. begins K s closed g (program_of s g))) in
        let open3 : round_open w.scenario w.closed ≡ true = (λ i. round_open (d3.scenario i) (same.closed i)) ∙ more in
        let full_is : (w.full && list_all owes_no_letter w.parts) ≡ true = ap (λ b. b && list_all owes_no_letter w.parts) same.full ∙ all_posted w.parts ripe.posted_all in
        let a : Accounts K s closed words ledger w piece = round_accounts K s closed words ledger w piece d3.scenario same.closed op
        (let A : List Access → Type 0 = λ p. AreMade s (suc (length closed)) p in subst A same_piece added.made) counted d3.kept ripe midst.ways in
        let there : closing K w ≡ begun K s (closed ++ round_letters K w ∷ []) (words_after words piece) (ledger ++ piece) true =
        (λ i. begun K (d3.scenario i) (same.closed i ++ round_letters K w ∷ []) (midst.words_are i) (midst.ledger i) (full_is i)) in
        let all = posts s ++ (ends s ++ Close ∷ []) in
        let whole : run K first (es ++ all) ≡ happen K w Close = run-append K es all first ∙ (run-append K (posts s) (ends s ++ Close ∷ []) w1 ∙ run-append K (ends s) (Close ∷ []) w2) in
        record { piece = piece; letters = round_letters K w; is = whole ∙ (close_open K w open3 ∙ there); round = a.round; legal = midst.legal }

    -- So the worlds after both are the same.
    pub wound_so : (names row : List ℕ) → IsWalk K first names → IsRoundFrom K first row → Continues names row → behind K first row ≡ behind K first names
    wound_so names row walk whole continues =
        let c = wound names in
        let n = round_adds K names first walk in
        let same : n.piece ≡ c.piece = append_cancel_left ledger n.piece c.piece (sym n.ledger ∙ ap (λ (v : World). v.ledger) c.is) in
        let own = round_walk K s closed words ledger c.piece c.letters d less c.legal c.round in
        let A : List Access → Type 0 = λ l. Continues names (generals_of l) in
        let row_is : row ≡ generals_of c.piece = completed_so names row (generals_of c.piece) first whole own continues (subst A same n.continues) in
        ap (behind K first) row_is ∙ (round_again K s sound closed words ledger c.piece c.letters d less c.legal c.round ∙ sym c.is)
