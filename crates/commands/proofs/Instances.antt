-- Lines read, byte by byte. Assumes nothing.
use Rattle.std.proofs.Common.{◌≡◌, [], ◌∷◌, map, replicate, Some, None, refl}
use Rattle.decimals.specs.Decimal.{all_digits, value_after, decimal}
use Rattle.cuts.specs.Cut.{pieces}
use Rattle.model.specs.Drawn.{same}
use Rattle.model.specs.Notices.{notice}
use Rattle.meanings.specs.Meanings.{request, change, asked}
use Rattle.meanings.specs.declared.Command.TheVariants.{Post, Withdraw, Enquire, Margin}
use Rattle.commands.specs.Commands.{meant, command_of}

-- "p 7 1 10", "w 65535", "w 00007", "q 0 2 595", "m 0 4"
pub lines_read : map command_of
    ((112 ∷ 32 ∷ 55 ∷ 32 ∷ 49 ∷ 32 ∷ 49 ∷ 48 ∷ 10 ∷ []) ∷
    (119 ∷ 32 ∷ 54 ∷ 53 ∷ 53 ∷ 51 ∷ 53 ∷ 10 ∷ []) ∷
    (119 ∷ 32 ∷ 48 ∷ 48 ∷ 48 ∷ 48 ∷ 55 ∷ 10 ∷ []) ∷
    (113 ∷ 32 ∷ 48 ∷ 32 ∷ 50 ∷ 32 ∷ 53 ∷ 57 ∷ 53 ∷ 10 ∷ []) ∷
    (109 ∷ 32 ∷ 48 ∷ 32 ∷ 52 ∷ 10 ∷ []) ∷
    [])
    ≡ Some (Post (notice 7 1 10)) ∷ Some (Withdraw 65535) ∷ Some (Withdraw 7) ∷ Some (Enquire (request 0 2 595)) ∷ Some (Margin (change 0 4)) ∷ []
unfolding command_of meant asked same pieces decimal all_digits value_after
lines_read = refl

-- "w 65536", "w 000007", an empty line, "w 7" without its newline, "w 7" and a carriage return, two spaces, a leading
-- and a trailing space, a missing and a surplus number, another letter, a NUL
pub lines_unread : map command_of
    ((119 ∷ 32 ∷ 54 ∷ 53 ∷ 53 ∷ 51 ∷ 54 ∷ 10 ∷ []) ∷
    (119 ∷ 32 ∷ 48 ∷ 48 ∷ 48 ∷ 48 ∷ 48 ∷ 55 ∷ 10 ∷ []) ∷
    (10 ∷ []) ∷
    (119 ∷ 32 ∷ 55 ∷ []) ∷
    (119 ∷ 32 ∷ 55 ∷ 13 ∷ 10 ∷ []) ∷
    (119 ∷ 32 ∷ 32 ∷ 55 ∷ 10 ∷ []) ∷
    (32 ∷ 119 ∷ 32 ∷ 55 ∷ 10 ∷ []) ∷
    (119 ∷ 32 ∷ 55 ∷ 32 ∷ 10 ∷ []) ∷
    (109 ∷ 32 ∷ 55 ∷ 10 ∷ []) ∷
    (119 ∷ 32 ∷ 55 ∷ 32 ∷ 55 ∷ 10 ∷ []) ∷
    (120 ∷ 32 ∷ 55 ∷ 10 ∷ []) ∷
    (119 ∷ 32 ∷ 0 ∷ 10 ∷ []) ∷
    [])
    ≡ replicate 12 None
unfolding command_of meant asked same pieces decimal all_digits value_after
lines_unread = refl
