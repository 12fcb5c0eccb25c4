-- What holds whatever letters the traitors of a signed campaign write (own; TOPLAS 1982, section 4). The last statement
-- is the contract of a function of this crate.
use Rattle.std.specs.Prelude.{ℕ, suc, ◌≡◌, ◌≢◌, ◌+◌, ◌*◌, ◌<◌, ◌≤◌, true, false, List, length, take, slice_get, Some}
use Rattle.semantics.specs.Limits.{context_size, most_held}
use Rattle.label.specs.Labels.{on}
use Rattle.label.specs.Lieutenants.{AgreeInList}
use Rattle.round.specs.Scenario.{Scenario, IsScenario, is_traitor}
use Rattle.round.specs.Letters.{Letter, letter_of}
use Rattle.world.specs.declared.event.Event.{Event}
use Rattle.world.specs.Kind.{loyal_letter}
use Rattle.signed.specs.Chains.{Chain, Among, orders}
use Rattle.signed.specs.Agreement.{IsSignedBound, SignedAgree}
use Rattle.signed.specs.Entries.{most_entries}
use Rattle.signed.specs.Contexts.{signed_context_numbers}
use Rattle.signed.specs.Sent.{sent_by, sent_in}
use Rattle.signed.specs.Kind.{signed_kind, played, held_in, accepted_in}
use Rattle.signed.specs.Chronicle.{signed_decisions, signed_verdict_of}
use Rattle.signed.specs.Laws.{chains_in, IsUnforged}

-- States that a letter is possible for general `g` in the round after these closed rounds. If he is loyal, it must be
-- the letter that SM(m) requires. If he is a traitor, it may be any letter with at most eight entries, even one that no
-- program could write.
pub record IsAnyLetter (s : Scenario) (before : List (List Letter)) (g : ℕ) (l : Letter) : Type 0 where
  pub loyal : is_traitor s g ≡ false → l ≡ loyal_letter signed_kind s before g
  pub few : is_traitor s g ≡ true → length l.outbox.entries ≤ most_entries

-- States that each letter is possible (`IsAnyLetter`) in its round.
abbrev pub AreAnyLetters : Scenario → List (List Letter) → Type 0
AreAnyLetters s closed = (k g : ℕ) (row : List Letter) (l : Letter) → slice_get closed k ≡ Some row → g < s.generals →
    letter_of row g ≡ Some l → IsAnyLetter s (take k closed) g l

-- States that no loyal general's letter is missing.
abbrev pub HaveLoyalLetters : Scenario → List (List Letter) → Type 0
HaveLoyalLetters s closed = (k g : ℕ) (row : List Letter) → slice_get closed k ≡ Some row → g < s.generals →
    is_traitor s g ≡ false → letter_of row g ≡ Some (loyal_letter signed_kind s (take k closed) g)

-- States that the letters of every world are possible (`IsAnyLetter`), and what follows from possible letters. All
-- chains are unforged, and there are few accepted orders, chains sent and chains held. After the last round the loyal
-- lieutenants agree, and the verdict says so, if there are at most m traitors among at least m + 2 generals.
pub record WhateverTraitorsWrite : Type 0 where
  pub written : (s : Scenario) (events : List Event) → IsScenario s → AreAnyLetters s (played s events).closed
  pub unforged : (s : Scenario) (closed : List (List Letter)) (r g : ℕ) (ch : Chain) → s.commander < s.generals →
      AreAnyLetters s closed → Among ch (chains_in (sent_by (sent_in s closed) r g)) →
      IsUnforged s (sent_in s closed) r g ch
  pub first : (s : Scenario) (closed : List (List Letter)) (p v : ℕ) → AreAnyLetters s closed → p < s.generals →
      on (accepted_in s closed p) v ≡ true → on (orders (chains_in (sent_by (sent_in s closed) 1 s.commander))) v ≡ true
  pub orders : (s : Scenario) (closed : List (List Letter)) (p : ℕ) → AreAnyLetters s closed → p < s.generals →
      length (accepted_in s closed p) ≤ most_entries
  pub few : (s : Scenario) (closed : List (List Letter)) (r g : ℕ) → AreAnyLetters s closed →
      length (sent_by (sent_in s closed) r g) ≤ most_entries
  pub held : (s : Scenario) (closed : List (List Letter)) (g : ℕ) → s.generals ≤ 13 → s.bound ≤ 4 →
      AreAnyLetters s closed → g < s.generals → length closed ≤ s.bound → length (held_in s closed g) ≤ most_held
  pub context : (s : Scenario) (closed : List (List Letter)) (g round : ℕ) → s.generals ≤ 13 → s.bound ≤ 4 →
      AreAnyLetters s closed → g < s.generals → length closed ≤ s.bound →
      4 * length (signed_context_numbers s.generals s.bound s.commander g round (held_in s closed g)) ≤ context_size
  pub agree : (s : Scenario) (closed : List (List Letter)) → s.commander < s.generals →
      IsSignedBound s.generals s.bound (is_traitor s) → AreAnyLetters s closed → HaveLoyalLetters s closed →
      length closed ≡ suc s.bound → SignedAgree s.generals s.commander s.order (is_traitor s) (accepted_in s closed)
  pub decided : (s : Scenario) (closed : List (List Letter)) → s.commander < s.generals →
      IsSignedBound s.generals s.bound (is_traitor s) → AreAnyLetters s closed → HaveLoyalLetters s closed →
      length closed ≡ suc s.bound →
      AgreeInList s.generals s.commander s.order (is_traitor s) (signed_decisions s closed)
  pub kept : (s : Scenario) (closed : List (List Letter)) → s.commander < s.generals → s.bound + 2 ≤ s.generals →
      AreAnyLetters s closed → HaveLoyalLetters s closed → length closed ≡ suc s.bound →
      (signed_verdict_of s (signed_decisions s closed)).bound ≡ true →
      ((signed_verdict_of s (signed_decisions s closed)).alike ≡ true)
      × ((signed_verdict_of s (signed_decisions s closed)).obeyed ≢ Some false)
