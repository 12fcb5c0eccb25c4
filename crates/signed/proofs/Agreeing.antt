-- All loyal lieutenants accept the same orders.
use Rattle.std.proofs.Common.{◌≡◌, ◌≢◌, ℕ, zero, suc, ◌<◌, ◌≤◌, Bool, true, false, ◌||◌, List, [], ◌∷◌, ◌++◌, length, refl, sym, ap, ◌∙◌, arith, inl, inr, length-append, le-leb}
use Rattle.std.specs.Prelude.{count_by, ◌==◌}
use Rattle.std.proofs.lemmas.Bool.{cases_Bool, cases_eq, cases_lt, or_from, or_parts, eq-eqb, ne_eqb}
use Rattle.label.specs.Labels.{on, generals}
use Rattle.label.specs.Oral.{BeginsWith, IsLoyalLieutenant}
use Rattle.label.proofs.Counting.{on-push}
use Rattle.outbox.proofs.RowLemmas.{on-below}
use Rattle.signed.specs.Chains.{Chain, Among, signed_also, signed_alone}
use Rattle.signed.specs.Accepted.{Deliveries, counted, accepted, added, loyal_chains}
use Rattle.signed.specs.Agreement.{IsLoyal, SignsForHimself, SignedAgreementHolds}
use Rattle.signed.proofs.Lists.{on_append, stands, also_in, firsts_out}
use Rattle.signed.proofs.Accepting.{came_in, came_out, counted_in, IsCounted, accepted_within, counted_accepted, accepted_out, added_out, chains_out, chains_size, sent_in, sent_out, loyal_signed}
use Rattle.signed.proofs.Unforged.{IsSent, unforged, labelled, loyal_signer}
use Rattle.signed.proofs.Decided.{accepted_distinct, decided_one, decided_same}

pub record Signing : Type 0 where
  pub n : ℕ
  pub c : ℕ
  pub m : ℕ
  pub order : ℕ
  pub traitor : ℕ → Bool
  pub S : Deliveries
  pub inside : c < n
  pub few : count_by traitor (generals n) ≤ m
  pub bad : (g : ℕ) → g < n → traitor g ≡ true → SignsForHimself n c S g
  pub good : (g : ℕ) → g < n → traitor g ≡ false → IsLoyal n c m order S g

all_signed : (x : Signing) (g : ℕ) → g < x.n → SignsForHimself x.n x.c x.S g
all_signed x g l = elim (cases_Bool (x.traitor g)) [ inl bad ↦ x.bad g l bad | inr good ↦ loyal_signed x.n x.c x.m x.order x.S g (x.good g l good) ]

-- If a loyal general signs and sends a chain, everybody who has not signed it accepts its order.
relay : (x : Signing) (r h q : ℕ) (ch : Chain) → h < x.n → x.traitor h ≡ false → q < x.n → Among ch (loyal_chains x.n x.c x.m x.order x.S r h) → length ch.signers ≤ suc x.m → on ch.signers q ≡ false → on (accepted x.n x.S (suc x.m) q) ch.order ≡ true
relay x zero h q ch hn loyal qn entry size off = elim (chains_out x.n x.c x.m x.order x.S zero h ch entry) [ inl own ↦ absurd (let e : 0 ≡ 1 = own.0 in cc) | inr rel ↦ absurd (let e : 0 ≡ suc (suc rel.round) = rel.here in cc) ]
relay x (suc k) h q ch hn loyal qn entry size off =
    let long : length ch.signers ≡ suc k = chains_size x.n x.c x.m x.order x.S (suc k) h ch entry in
    let there = sent_in x.n x.c x.m x.order x.S h (x.good h hn loyal) (suc k) q ch qn entry off in
    let now = counted_accepted x.n x.S k q ch (counted_in x.n x.S (suc k) q ch (record { came = came_in x.n x.S (suc k) h q ch hn there; size = long; off = off })) in
    accepted_within x.n x.S q ch.order (suc x.m) (suc k) (omega arith) now

-- A loyal lieutenant has accepted the order of each chain that he signed.
own : (x : Signing) (r q : ℕ) (ch : Chain) → q ≢ x.c → Among ch (loyal_chains x.n x.c x.m x.order x.S r q) → on (accepted x.n x.S (suc x.m) q) ch.order ≡ true
own x r q ch ne entry = elim (chains_out x.n x.c x.m x.order x.S r q ch entry) [
  | inl mine ↦ absurd (ne mine.1.0)
  | inr rel ↦
      let f = (firsts_out (accepted x.n x.S rel.round q) (counted x.n x.S (suc rel.round) q) rel.held rel.there).0 in
      let now = counted_accepted x.n x.S rel.round q rel.held f in
      let o : rel.held.order ≡ ch.order = ap (λ y. y.order) rel.signed in
      rw o at (accepted_within x.n x.S q rel.held.order (suc x.m) (suc rel.round) (let t = rel.time in omega arith) now)
]

chains_in : (x : Signing) (k p : ℕ) (ch : Chain) → p ≢ x.c → suc k ≤ x.m → Among ch (added x.n x.S k p) → Among (signed_also ch p) (loyal_chains x.n x.c x.m x.order x.S (suc (suc k)) p)
unfolding loyal_chains
chains_in x k p ch ne time h = rw (ne_eqb p x.c ne, le-leb (suc k) x.m time) (also_in p (added x.n x.S k p) ch h)

front_off : (u : List ℕ) (h : ℕ) (w : List ℕ) (q : ℕ) → on (u ++ h ∷ w) q ≡ false → on (u ++ h ∷ []) q ≡ false
front_off u h w q o =
    let a = or_parts (on u q) (h == q || on w q) (sym (on_append u (h ∷ w) q) ∙ o) in
    let b = or_parts (h == q) (on w q) a.1 in
    on_append u (h ∷ []) q ∙ or_from (on u q) (h == q || false) a.0 (or_from (h == q) false b.0 refl)

front_short : (u : List ℕ) (h : ℕ) (w xs : List ℕ) → xs ≡ u ++ h ∷ w → length (u ++ h ∷ []) ≤ length xs
front_short u h w xs e = rw e (omega (arith, length-append u (h ∷ []), length-append u (h ∷ w)))

-- A chain that brought `p` an order.
pub record IsCome (x : Signing) (p v k : ℕ) : Type 0 where
  pub chain : Chain
  pub early : suc k ≤ suc x.m
  pub added : Among chain (added x.n x.S k p)
  pub counts : IsCounted x.n x.S (suc k) p chain
  pub sender : ℕ
  pub general : sender < x.n
  pub there : Among chain (x.S (suc k) sender p)
  pub brings : chain.order ≡ v

come : (x : Signing) (p v : ℕ) → on (accepted x.n x.S (suc x.m) p) v ≡ true → (k : ℕ) × IsCome x p v k
come x p v h =
    let b = accepted_out x.n x.S p v (suc x.m) h in
    let k = added_out x.n x.S b.round p b.chain b.there in
    let f = came_out x.n x.S (suc b.round) p b.chain k.came in
    (b.round, record { chain = b.chain; early = b.early; added = b.there; counts = k; sender = f.0; general = f.1.0; there = f.1.1; brings = b.brings })

-- Each beginning of such a chain was sent by its last signer.
front : (x : Signing) (p v k : ℕ) → p < x.n → (i : IsCome x p v k) → (u : List ℕ) (h : ℕ) (w : List ℕ) → i.chain.signers ≡ u ++ h ∷ w → IsSent x.n x.S h (suc k) (record { order = i.chain.order; signers = u ++ h ∷ [] })
front x p v k pn i u h w split = unforged x.n x.c x.S (all_signed x) (suc (suc k)) (suc k) (omega arith) i.sender p i.chain i.general pn i.there u h w split

-- If a loyal general has signed the chain, it reaches `q`.
loyal_front : (x : Signing) (p q v k : ℕ) → p < x.n → q < x.n → (i : IsCome x p v k) → on i.chain.signers q ≡ false → (h : ℕ) → on i.chain.signers h ≡ true → h < x.n → x.traitor h ≡ false → on (accepted x.n x.S (suc x.m) q) v ≡ true
loyal_front x p q v k pn qn i off h stand hn loyal =
    let s = stands i.chain.signers h stand in
    let sent = front x p v k pn i s.0 h s.1.0 s.1.1 in
    let entry = (sent_out x.n x.c x.m x.order x.S h (x.good h hn loyal) sent.round sent.receiver (record { order = i.chain.order; signers = s.0 ++ h ∷ [] }) sent.general sent.there).0 in
    let size : length i.chain.signers ≡ suc k = i.counts.size in
    let early : suc k ≤ suc x.m = i.early in
    let short : length (s.0 ++ h ∷ []) ≤ suc x.m = omega (arith, front_short s.0 h s.1.0 i.chain.signers s.1.1) in
    rw i.brings at (relay x sent.round h q (record { order = i.chain.order; signers = s.0 ++ h ∷ [] }) hn loyal qn entry short (front_off s.0 h s.1.0 q (rw s.1.1 at off)))

-- If `q` has signed the chain, he has accepted its order.
on_chain : (x : Signing) (p q v k : ℕ) → p < x.n → IsLoyalLieutenant x.n x.c x.traitor q → (i : IsCome x p v k) → on i.chain.signers q ≡ true → on (accepted x.n x.S (suc x.m) q) v ≡ true
on_chain x p q v k pn lq i stand =
    let s = stands i.chain.signers q stand in
    let sent = front x p v k pn i s.0 q s.1.0 s.1.1 in
    let entry = (sent_out x.n x.c x.m x.order x.S q (x.good q lq.general lq.loyal) sent.round sent.receiver (record { order = i.chain.order; signers = s.0 ++ q ∷ [] }) sent.general sent.there).0 in
    rw i.brings at (own x sent.round q (record { order = i.chain.order; signers = s.0 ++ q ∷ [] }) lq.lieutenant entry)

-- `p` passes the chain on to `q` in time.
passed_on : (x : Signing) (p q v k : ℕ) → IsLoyalLieutenant x.n x.c x.traitor p → q < x.n → p ≢ q → (i : IsCome x p v k) → on i.chain.signers q ≡ false → suc k ≤ x.m → on (accepted x.n x.S (suc x.m) q) v ≡ true
passed_on x p q v k lp qn ne i off time =
    let entry = chains_in x k p i.chain lp.lieutenant time i.added in
    let size : length i.chain.signers ≡ suc k = i.counts.size in
    let short : length (i.chain.signers ++ p ∷ []) ≤ suc x.m = omega (arith, length-append i.chain.signers (p ∷ [])) in
    let away : on (i.chain.signers ++ p ∷ []) q ≡ false = on-push i.chain.signers p q ∙ or_from (on i.chain.signers q) (p == q) off (ne_eqb p q ne) in
    rw i.brings at (relay x (suc (suc k)) p q (signed_also i.chain p) lp.general lp.loyal qn entry short away)

-- If the chain came in the last round, one of its more than m signers is loyal.
last_round : (x : Signing) (p q v k : ℕ) → p < x.n → q < x.n → (i : IsCome x p v k) → on i.chain.signers q ≡ false → x.m < suc k → on (accepted x.n x.S (suc x.m) q) v ≡ true
last_round x p q v k pn qn i off late =
    let label = labelled x.n x.c x.S x.inside (all_signed x) (suc (suc k)) (suc k) (omega arith) i.sender p i.chain i.general pn i.there in
    let size : length i.chain.signers ≡ suc k = i.counts.size in
    let s = loyal_signer x.n x.c x.m x.traitor i.chain.signers label x.few (omega arith) in
    loyal_front x p q v k pn qn i off s.0 s.1.0 (on-below x.n i.chain.signers s.0 label.below s.1.0) s.1.1

pub same : (x : Signing) (p q v : ℕ) → IsLoyalLieutenant x.n x.c x.traitor p → IsLoyalLieutenant x.n x.c x.traitor q → on (accepted x.n x.S (suc x.m) p) v ≡ true → on (accepted x.n x.S (suc x.m) q) v ≡ true
same x p q v lp lq h =
    elim (cases_eq p q) [
      | inl e ↦ rw e at h
      | inr ne ↦
          let f = come x p v h in
          elim (cases_Bool (on f.1.chain.signers q)) [
            | inl stand ↦ on_chain x p q v f.0 lp.general lq f.1 stand
            | inr off ↦ elim (cases_lt f.0 x.m) [
              | inl time ↦ passed_on x p q v f.0 lp lq.general ne f.1 off (omega arith)
              | inr late ↦ last_round x p q v f.0 lp.general lq.general f.1 off (omega arith)
            ]
          ]
    ]

begins_cons : (c : ℕ) (w : List ℕ) → BeginsWith c w → (t : List ℕ) × (w ≡ [] ++ c ∷ t)
begins_cons c [] b = absurd b
begins_cons c (x ∷ w) b = (w, rw b refl)

-- If the commander is loyal, only his order is accepted.
only_order : (x : Signing) (p v : ℕ) → p < x.n → x.traitor x.c ≡ false → on (accepted x.n x.S (suc x.m) p) v ≡ true → v ≡ x.order
only_order x p v pn loyal h =
    let f = come x p v h in
    let i = f.1 in
    let label = labelled x.n x.c x.S x.inside (all_signed x) (suc (suc f.0)) (suc f.0) (omega arith) i.sender p i.chain i.general pn i.there in
    let b = begins_cons x.c i.chain.signers label.first in
    let sent = front x p v f.0 pn i [] x.c b.0 b.1 in
    let entry = (sent_out x.n x.c x.m x.order x.S x.c (x.good x.c x.inside loyal) sent.round sent.receiver (record { order = i.chain.order; signers = x.c ∷ [] }) sent.general sent.there).0 in
    elim (chains_out x.n x.c x.m x.order x.S sent.round x.c (record { order = i.chain.order; signers = x.c ∷ [] }) entry) [
      | inl mine ↦ let o : x.order ≡ i.chain.order = ap (λ y. y.order) mine.1.1 in sym (o ∙ i.brings)
      | inr rel ↦ absurd (rel.lieutenant refl)
    ]

begin_in : (x : Signing) → Among (signed_alone x.order x.c) (loyal_chains x.n x.c x.m x.order x.S 1 x.c)
unfolding loyal_chains
begin_in x = rw (eq-eqb x.c x.c refl) (inl refl)

order_in : (x : Signing) (p : ℕ) → IsLoyalLieutenant x.n x.c x.traitor p → x.traitor x.c ≡ false → on (accepted x.n x.S (suc x.m) p) x.order ≡ true
order_in x p lp loyal = relay x 1 x.c p (signed_alone x.order x.c) x.inside loyal lp.general (begin_in x) (omega arith) (or_from (x.c == p) false (ne_eqb x.c p (λ e. lp.lieutenant (sym e))) refl)

both : (a b : Bool) → (a ≡ true → b ≡ true) → (b ≡ true → a ≡ true) → a ≡ b
both true b to back = sym (to refl)
both false true to back = back refl
both false false to back = refl

pub holds : SignedAgreementHolds
holds n c m order traitor S inside bound bad good =
    let x : Signing = record { n = n; c = c; m = m; order = order; traitor = traitor; S = S; inside = inside; few = bound.few; bad = bad; good = good } in
    record {
      same = λ p q v lp lq. both (on (accepted n S (suc m) p) v) (on (accepted n S (suc m) q) v) (same x p q v lp lq) (same x q p v lq lp);
      alike = λ p q lp lq. decided_same (accepted n S (suc m) p) (accepted n S (suc m) q) (accepted_distinct n S p (suc m)) (accepted_distinct n S q (suc m)) (λ v h. same x p q v lp lq h) (λ v h. same x q p v lq lp h);
      obeyed = λ loyal p lp. decided_one (accepted n S (suc m) p) order (accepted_distinct n S p (suc m)) (order_in x p lp loyal) (λ v h. only_order x p v lp.general loyal h);
    }
