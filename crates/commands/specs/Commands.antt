-- What a command line says. A line is the list of its bytes, its newline with it. Assumes nothing.
use Rattle.std.specs.Prelude.{Bool, cond, Option, Some, None, ◌&&◌, ℕ, ◌-◌, leb, eqb, length, get_or, take}
use mathlib.Core.List.{List, [], ◌∷◌, map, foldl}
use Rattle.decimals.specs.Bytes.{newline}
use Rattle.decimals.specs.Decimal.{decimal}
use Rattle.meanings.specs.Meanings.{with_number, asked}
use Rattle.meanings.specs.declared.Command.{Command}
use Rattle.meanings.specs.declared.Numbers.{Numbers}
use Rattle.meanings.specs.declared.Numbers.TheVariants.{Zero}
use Rattle.commands.specs.Words.{words}

-- how long a line may be, with its newline
abbrev pub max_line : ℕ
max_line = 64

-- the numbers after a command's first word: none to three, all of them read
abbrev pub gathered : List (Option ℕ) → Option Numbers
gathered = foldl with_number (Some Zero)

-- the command of a line's words: the first word and the numbers after it
unfoldable pub meant : List (List ℕ) → Option Command
meant [] = None
meant (w ∷ ws) = asked w (gathered (map decimal ws))

-- whether a line ends with a newline
abbrev pub ended : List ℕ → Bool
ended line = eqb (get_or line (length line - 1) 0) newline

-- the command of a line: at most 64 bytes, ended by a newline, which is no part of its words
unfoldable pub command_of : List ℕ → Option Command
command_of line = cond (leb (length line) max_line && ended line) (meant (words (take (length line - 1) line))) None
