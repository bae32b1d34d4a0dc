-- When the lists of a handed-in graph area are the departure lists of its times. Assumes nothing.
use Rattle.std.specs.Prelude.{◌≡◌, List, ℕ, ◌<◌, get_or}
use Rattle.model.specs.Least.{none}
use Rattle.model.specs.Network.{Network}
use Rattle.model.specs.Graph.{waiting, transfer, first_departure}
use Rattle.links.specs.Links.{first_of, next_of}
use Rattle.changes.specs.Changes.{change_of}

-- first departures and waiting entries are those of the network
pub record LinksRight (net : Network) (g : List ℕ) : Type 0 where
  pub firsts : (b : ℕ) → b < net.stops → first_of net g b ≡ first_departure net b
  pub nexts : (c : ℕ) → c < net.connections → next_of net g c ≡ waiting net c

-- so are the transfer entries
abbrev pub ChangesRight : Network → List ℕ → Type 0
ChangesRight net g = (c : ℕ) → c < net.connections → change_of net g c ≡ transfer net c

-- all three lists are those of the network
pub record ListsRight (net : Network) (g : List ℕ) : Type 0 where
  pub links : LinksRight net g
  pub changes : ChangesRight net g

-- a link leads to each connection
abbrev pub AllMarked : Network → List ℕ → Type 0
AllMarked net marks = (d : ℕ) → d < net.connections → get_or marks d 0 ≡ none → ⊥
