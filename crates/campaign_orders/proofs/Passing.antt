-- Names and rounds after which no further order comes.
use Rattle.std.proofs.Common.{◌≡◌, ℕ, zero, suc, ◌+◌, ◌-◌, ◌<◌, ◌≤◌, List, [], ◌∷◌, ◌++◌, length, length-drop, map, take, drop, get_or, set, true, refl, sym, ap, ◌∙◌, Option, Some, None, arith}
use Rattle.std.specs.Prelude.{filter, ◌==◌, bytes_eq}
use Rattle.std.proofs.Common.{Vec}
use Rattle.std.specs.Global.{Global}
use Rattle.std.proofs.lemmas.List.{map-append, take_all}
use Rattle.std.proofs.Math.Seq.{drop-cons, take-suc-set}
use Rattle.board.specs.Board.{Access}
use Rattle.world.specs.Playing.{lists_in}
use Rattle.world.specs.KindLists.{names_in}
use Rattle.campaign_orders.specs.Exploring.{Finding}
use Rattle.campaign_orders.specs.Entering.{entered}
use Rattle.campaign_orders.specs.Places.{AreElsewhere, IsNowhere}
use Rattle.campaign_orders.specs.Succession.{least_above, turned_at, next_names, turned_in, next_order}

-- One more round.
pub names_more : (round k : ℕ) (ledger : List Access) → names_in round ledger (suc k) ≡ names_in round ledger k ++ map (λ a. a.general) (filter (λ a. a.round == (round + k)) ledger) ∷ []
names_more round zero ledger = (let e : round ≡ round + 0 = omega arith in ap (λ (r : ℕ). map (λ a. a.general) (filter (λ a. a.round == r) ledger) ∷ []) e)
names_more round (suc k) ledger =
    let e : suc round + k ≡ round + suc k = omega arith in
    λ i. map (λ a. a.general) (filter (λ a. a.round == round) ledger) ∷ (names_more (suc round) k ledger ∙ ap (λ (r : ℕ). names_in (suc round) ledger k ++ map (λ a. a.general) (filter (λ a. a.round == r) ledger) ∷ []) e) i

pub order_more : (old new : List (Vec ℕ Global)) (names : Vec ℕ Global) (ledger : List Access) (k round : ℕ) → round ≡ k + 1 → lists_in old ≡ names_in 1 ledger k →
    names.items ≡ map (λ a. a.general) (filter (λ a. a.round == round) ledger) → new ≡ old ++ names ∷ [] → lists_in new ≡ names_in 1 ledger (k + 1)
order_more old new names ledger k round r so here is =
    let one : suc k ≡ k + 1 = omega arith in
    let round_is : round ≡ 1 + k = omega arith in
    ap lists_in is ∙ (map-append (λ (v : Vec ℕ Global). v.items) old (names ∷ [])
    ∙ ((λ i. so i ++ (here ∙ ap (λ (n : ℕ). map (λ a. a.general) (filter (λ a. a.round == n) ledger)) round_is) i ∷ [])
    ∙ (sym (names_more 1 k ledger) ∙ ap (λ (n : ℕ). names_in 1 ledger n) one)))

-- If the names from an index on have a next order, so do all names.
pub turned_behind : (names : List ℕ) (place : ℕ) (next : List ℕ) → place ≤ length names → next_names (drop place names) ≡ Some next → next_names names ≡ Some (take place names ++ next)
turned_behind names zero next le e = e
turned_behind [] (suc place) next le e = absurd (omega arith)
turned_behind (g ∷ names) (suc place) next le e = ap (λ (o : Option (List ℕ)). turned_at g o (least_above g names)) (turned_behind names place next (omega arith) e)

-- The names change at this index, in the list as the code has it.
pub turned_there : (names : List ℕ) (place g h : ℕ) (behind after rest : List ℕ) → place < length names → next_names (drop (suc place) names) ≡ None → g ≡ get_or names place g → behind ≡ drop (suc place) names →
    Some h ≡ least_above g behind → after ≡ set names place h → rest ≡ take (suc place) after → Some rest ≡ next_names names
turned_there names place g h behind after rest lt none here later least written kept =
    let first : drop place names ≡ g ∷ drop (suc place) names = drop-cons names place g lt ∙ ap (λ (x : ℕ). x ∷ drop (suc place) names) (sym here) in
    let other : least_above g (drop (suc place) names) ≡ Some h = ap (least_above g) (sym later) ∙ sym least in
    let turns : next_names (drop place names) ≡ Some (h ∷ []) = ap next_names first ∙ (λ i. turned_at g (none i) (other i)) in
    let left : rest ≡ take place names ++ h ∷ [] = kept ∙ (ap (take (suc place)) written ∙ take-suc-set names place h lt) in
    ap Some left ∙ sym (turned_behind names place (h ∷ []) (omega arith) turns)

pub turned_before : (names s : List ℕ) (place g h : ℕ) (rest : List ℕ) → 0 < place → place ≤ length names → next_names (drop place names) ≡ None → g ≡ get_or names (place - 1) g → s ≡ names →
    Some h ≡ least_above g (take (length s - (place - 1 + 1)) (drop (place - 1 + 1) s)) → rest ≡ take (place - 1 + 1) (set names (place - 1) h) → Some rest ≡ next_names names
turned_before names s place g h rest more le none here same least kept =
    let p = place - 1 in
    let one : p + 1 ≡ suc p = omega arith in
    let is : place ≡ suc p = omega arith in
    let behind : take (length s - (p + 1)) (drop (p + 1) s) ≡ drop (suc p) names =
    take_all (length s - (p + 1)) (drop (p + 1) s) (omega (arith, length-drop (p + 1) s)) ∙ (λ i. drop (one i) (same i)) in
    turned_there names p g h (take (length s - (p + 1)) (drop (p + 1) s)) (set names p h) rest (omega arith) (ap (λ (n : ℕ). next_names (drop n names)) (sym is) ∙ none) here behind least refl
    (kept ∙ ap (λ (n : ℕ). take n (set names p h)) one)

-- One more round, which cannot change or does.
pub passed : (order : List (List ℕ)) (names : List ℕ) → next_names names ≡ None → next_order (order ++ names ∷ []) ≡ next_order order
passed [] names e = ap (λ (o : Option (List ℕ)). turned_in names None o) e
passed (first ∷ order) names e = ap (λ (o : Option (List (List ℕ))). turned_in first o (next_names first)) (passed order names e)

pub turned : (order : List (List ℕ)) (names next : List ℕ) → next_names names ≡ Some next → next_order (order ++ names ∷ []) ≡ Some (order ++ next ∷ [])
turned [] names next e = ap (λ (o : Option (List ℕ)). turned_in names None o) e
turned (first ∷ order) names next e = ap (λ (o : Option (List (List ℕ))). turned_in first o (next_names first)) (turned order names next e)

-- One more order is counted.
pub entered_there : (fs : List Finding) (place : ℕ) (ds : List ℕ) (order : List (List ℕ)) (old new : Finding) → place < length fs → AreElsewhere place fs ds → ((d : Finding) → bytes_eq (get_or fs place d).decisions ds ≡ true) →
    old ≡ get_or fs place old → new ≡ record old { count = old.count + 1 } → entered fs ds order ≡ set fs place new
entered_there [] place ds order old new lt before here was is = absurd (omega arith)
entered_there (f ∷ fs) zero ds order old new lt before here was is =
    let e : new ≡ record f { count = f.count + 1 } = is ∙ ap (λ (g : Finding). record g { count = g.count + 1 }) was in
    rw (here f) (λ i. sym e i ∷ fs)
entered_there (f ∷ fs) (suc place) ds order old new lt before here was is =
    rw (before 0 f (omega arith)) (λ i. f ∷ entered_there fs place ds order old new (omega arith) (λ k d l. before (suc k) d (omega arith)) here was is i)

pub entered_behind : (fs : List Finding) (ds : List ℕ) (order : List (List ℕ)) → IsNowhere fs ds →
    entered fs ds order ≡ fs ++ record { decisions = ds; count = 1; example = order } ∷ []
entered_behind [] ds order before = refl
entered_behind (f ∷ fs) ds order before = rw (before 0 f (omega arith)) (λ i. f ∷ entered_behind fs ds order (λ k d l. before (suc k) d (omega arith)) i)

-- A round is removed from the end of an order.
pub order_turned : (old front new : List (Vec ℕ Global)) (names next : Vec ℕ Global) → old ≡ front ++ names ∷ [] → Some next.items ≡ next_names names.items → new ≡ front ++ next ∷ [] →
    Some (lists_in new) ≡ next_order (lists_in old)
order_turned old front new names next is turns made =
    let left = ap lists_in made ∙ map-append (λ (v : Vec ℕ Global). v.items) front (next ∷ []) in
    let right = ap lists_in is ∙ map-append (λ (v : Vec ℕ Global). v.items) front (names ∷ []) in
    ap Some left ∙ (sym (turned (lists_in front) names.items next.items (sym turns)) ∙ ap next_order (sym right))

pub order_passed : (old front : List (Vec ℕ Global)) (names : Vec ℕ Global) → old ≡ front ++ names ∷ [] → None ≡ next_names names.items → next_order (lists_in front) ≡ next_order (lists_in old)
order_passed old front names is none =
    let right = ap lists_in is ∙ map-append (λ (v : Vec ℕ Global). v.items) front (names ∷ []) in
    sym (passed (lists_in front) names.items (sym none)) ∙ ap next_order (sym right)
