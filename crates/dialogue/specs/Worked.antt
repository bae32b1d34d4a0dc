-- What the functions of the dialogue promise. Assumes nothing.
use Rattle.std.specs.Prelude.{◌≡◌, List, true, false, ℕ, ◌≤◌, ◌+◌, ◌<◌, take, length, drop}
use Rattle.model.specs.Day.{Day}
use Rattle.input.specs.Lines.{plain, WholeLines, commands_of}
use Rattle.labels.specs.Room.{LineIs}
use Rattle.dialogue.specs.declared.Progress.{Progress}
use Rattle.turns.specs.Turns.{State}
use Rattle.dialogue.specs.Talks.{talk}
use Rattle.dialogue.specs.Room.{answer_room}

-- a block worked up to a place where a line ends: the answers to its lines stand at the front of out, the rest of out is as before,
-- and everything else is as the dialogue leaves it
pub record Talked (day : Day) (s₀ s : State) (block : List ℕ) (at size : ℕ) (out out₀ : List ℕ) : Type 0 where
  pub within : at ≤ length block
  pub whole : WholeLines (take at block)
  pub answers : LineIs size out out₀ (talk day s₀ (commands_of (take at block))).text
  pub left : s ≡ (talk day s₀ (commands_of (take at block))).after

-- a block worked: up to its last newline, or as far as out has room for the longest answer
pub record Progressed (day : Day) (s₀ s : State) (block : List ℕ) (p : Progress) (out out₀ : List ℕ) : Type 0 where
  pub done : Talked day s₀ s block p.at p.size out out₀
  pub over : p.full ≡ false → plain (drop p.at block) ≡ true
  pub filled : p.full ≡ true → length out < p.size + answer_room
