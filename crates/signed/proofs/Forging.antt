-- If letters are made from what was received before, every general signs only in his own name, and all chains are
-- unforged.
use Rattle.std.proofs.Common.{◌≡◌, ℕ, suc, ◌<◌, ◌≤◌, List, [], ◌∷◌, ◌++◌, refl, sym, ap, ◌∙◌, arith, inl, inr}
use Rattle.std.specs.Prelude.{◌⊎◌}
use Rattle.label.specs.Oral.{IsLabel}
use Rattle.label.proofs.Pushes.{IsLabel-push}
use Rattle.signed.specs.Chains.{Chain, Among}
use Rattle.signed.specs.Accepted.{Deliveries, held, loyal_chains}
use Rattle.signed.specs.Agreement.{IsPassedOn, SignsForHimself}
use Rattle.signed.specs.Entries.{Dispatch}
use Rattle.round.specs.Scenario.{Scenario}
use Rattle.signed.specs.Sent.{Sent, sent_by, delivered}
use Rattle.signed.specs.Laws.{chains_in, IsUnforged}
use Rattle.signed.proofs.Lists.{snoc_split, no_cons}
use Rattle.signed.proofs.Accepting.{loyal_signs}
use Rattle.signed.proofs.Unforged.{unforged, labelled, chain_is}
use Rattle.signed.proofs.Dispatching.{received_out, held_out, IsOfEntry, dispatched_out, all_others_out}
use Rattle.signed.proofs.Making.{IsMade, IsMadeOf}

-- States that a chain has only the general's signature, and he is the commander, or that it extends a chain that he
-- holds.
abbrev pub IsSignedBy : ℕ → ℕ → Deliveries → ℕ → ℕ → Chain → Type 0
IsSignedBy n c S r g ch = ((g ≡ c) × (ch.signers ≡ g ∷ [])) ⊎ IsPassedOn n S r g ch

entry_signed : (s : Scenario) (S : Deliveries) (r g : ℕ) (ch : Chain) → IsOfEntry s.commander g (held s.generals S r g) ch → IsSignedBy s.generals s.commander S r g ch
entry_signed s S r g ch e = elim e.how [
  | inl own ↦ inl own
  | inr pass ↦ inr (record { held = pass.0; there = held_out s.generals S r g pass.0 pass.1.0; once = pass.1.1.0; signed = pass.1.1.1 })
]

-- Who sends is a general, and signs only in his own name.
pub made_signed : (s : Scenario) (S : Deliveries) (r g : ℕ) (xs : List Dispatch) (ch : Chain) → IsMadeOf s S r g xs → Among ch (chains_in xs) → (g < s.generals) × IsSignedBy s.generals s.commander S r g ch
made_signed s S r g xs ch made h = elim made [
  | inl none ↦ absurd (let f : Among ch (chains_in []) = rw none at h in f)
  | inr some ↦ elim some [
    | inl t ↦ (t.general, entry_signed s S r g ch (dispatched_out s.generals s.commander g (held s.generals S r g) t.entries ch (rw t.sends at h)))
    | inr y ↦ (y.general, loyal_signs s.generals s.commander s.bound s.order S r g ch (all_others_out s.generals (loyal_chains s.generals s.commander s.bound s.order S r g) ch (rw y.sends at h)))
  ]
]

pub all_signed : (s : Scenario) (sent : Sent) → IsMade s sent → (g : ℕ) → g < s.generals → SignsForHimself s.generals s.commander (delivered sent) g
all_signed s sent made g gn r p ch pn h = (made_signed s (delivered sent) r g (sent_by sent r g) ch (made r g) (received_out p (sent_by sent r g) ch h)).1

-- The beginning of a chain up to a signer was sent by him.
pub record IsBegun (sent : Sent) (h last : ℕ) (ch : Chain) : Type 0 where
  pub round : ℕ
  pub early : round ≤ last
  pub there : Among ch (chains_in (sent_by sent round h))

own_whole : (sent : Sent) (r g h : ℕ) (ch : Chain) (u : List ℕ) → Among ch (chains_in (sent_by sent r g)) → h ≡ g → u ++ h ∷ [] ≡ ch.signers → IsBegun sent h r (record { order = ch.order; signers = u ++ h ∷ [] })
own_whole sent r g h ch u there e s = record { round = r; early = omega arith; there = rw (chain_is ch (u ++ h ∷ []) s, e) there }

pub begun_by : (s : Scenario) (sent : Sent) (made : IsMade s sent) (r g : ℕ) (ch : Chain) → Among ch (chains_in (sent_by sent r g)) → g < s.generals → IsSignedBy s.generals s.commander (delivered sent) r g ch
    → (u : List ℕ) (h : ℕ) (v : List ℕ) → ch.signers ≡ u ++ h ∷ v → IsBegun sent h r (record { order = ch.order; signers = u ++ h ∷ [] })
begun_by s sent made r g ch there gn signed u h v split = elim signed [
  | inl own ↦ elim (snoc_split u h v [] g (sym split ∙ own.1)) [
    | inl same ↦ own_whole sent r g h ch u there same.1 (let a : u ≡ [] = same.0 in let q : h ≡ g = same.1 in rw (a, q) (sym own.1))
    | inr more ↦ absurd (no_cons u h more.0 (sym more.1))
  ]
  | inr pass ↦
      let long : ch.signers ≡ pass.held.signers ++ g ∷ [] = ap (λ x. x.signers) pass.signed in
      elim (snoc_split u h v pass.held.signers g (sym split ∙ long)) [
        | inl same ↦ own_whole sent r g h ch u there same.1 (let a : u ≡ pass.held.signers = same.0 in let q : h ≡ g = same.1 in rw (a, q) (sym long))
        | inr more ↦
            let i = pass.there in
            let o : pass.held.order ≡ ch.order = sym (ap (λ x. x.order) pass.signed) in
            let sent_before = unforged s.generals s.commander (delivered sent) (all_signed s sent made) (suc i.round) i.round (omega arith) i.sender g pass.held i.general gn i.came u h more.0 more.1 in
            rw (← o) (record {
              round = sent_before.round;
              early = (let e = i.earlier in let f = sent_before.early in omega arith);
              there = received_out sent_before.receiver (sent_by sent sent_before.round h) (record { order = pass.held.order; signers = u ++ h ∷ [] }) sent_before.there;
            })
      ]
]

label_of : (s : Scenario) (sent : Sent) (made : IsMade s sent) (r g : ℕ) (ch : Chain) → s.commander < s.generals → g < s.generals → IsSignedBy s.generals s.commander (delivered sent) r g ch → IsLabel s.generals s.commander ch.signers
label_of s sent made r g ch inside gn signed = elim signed [
  | inl own ↦ rw own.1 (record { first = own.0; below = (gn, tt); distinct = refl })
  | inr pass ↦
      let i = pass.there in
      let long : ch.signers ≡ pass.held.signers ++ g ∷ [] = ap (λ x. x.signers) pass.signed in
      rw long (IsLabel-push (labelled s.generals s.commander (delivered sent) inside (all_signed s sent made) (suc i.round) i.round (omega arith) i.sender g pass.held i.general gn i.came) g gn pass.once)
]

last_of : (n c : ℕ) (S : Deliveries) (r g : ℕ) (ch : Chain) → IsSignedBy n c S r g ch → (u : List ℕ) × (ch.signers ≡ u ++ g ∷ [])
last_of n c S r g ch signed = elim signed [
  | inl own ↦ ([], own.1)
  | inr pass ↦ (pass.held.signers, ap (λ x. x.signers) pass.signed)
]

pub sent_unforged : (s : Scenario) (sent : Sent) → IsMade s sent → (r g : ℕ) (ch : Chain) → s.commander < s.generals → Among ch (chains_in (sent_by sent r g)) → IsUnforged s sent r g ch
sent_unforged s sent made r g ch inside there =
    let signed = made_signed s (delivered sent) r g (sent_by sent r g) ch (made r g) there in
    record {
      chain = label_of s sent made r g ch inside signed.0 signed.1;
      last = last_of s.generals s.commander (delivered sent) r g ch signed.1;
      own = λ u h v split. let b = begun_by s sent made r g ch there signed.0 signed.1 u h v split in record { round = b.round; early = b.early; there = b.there };
    }
