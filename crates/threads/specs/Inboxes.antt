-- The inboxes of the generals, and what an inbox contains after its task is taken (own).
use Rattle.std.specs.Prelude.{ℕ, ◌≡◌, ◌<◌, List, length, slice_index_or}
use Rattle.threads.specs.Duties.{Duty}
use Rattle.threads.specs.declared.inbox.Inbox.{Inbox}
use Rattle.threads.specs.declared.inbox.Phase.{Phase}
use Rattle.threads.specs.declared.inbox.Phase.TheVariants.{Waiting, Given, Closed}

abbrev pub left_in : Phase → Phase
left_in (Given task) = Waiting
left_in Waiting = Waiting
left_in (Closed home) = Closed home

-- States that the inboxes are ascending by general: the inbox at index `g` is general `g`'s.
abbrev pub AreOwn : List Inbox → Type 0
AreOwn inboxes = (g : ℕ) (d : Inbox) → g < length inboxes → (slice_index_or inboxes g d).general ≡ g

-- States that the tasks are ascending by general: the task at index `g` is general `g`'s.
abbrev pub AreByGeneral : List Duty → Type 0
AreByGeneral tasks = (g : ℕ) (d : Duty) → g < length tasks → (slice_index_or tasks g d).general ≡ g
