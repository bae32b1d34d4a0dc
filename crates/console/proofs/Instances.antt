-- Example J of document 01 whole, a delay corrected on it, and why its connections are late: the file, the commands, and what the
-- program prints, byte by byte.
-- Assumes nothing.
use Rattle.std.proofs.Common.{◌≡◌, ℕ, List, [], ◌∷◌, refl}
use Rattle.refusals.specs.Answers.{first_below}
use Rattle.timetable.specs.File.{transfer_time, trip, from, to, scheduled_departure, scheduled_arrival, stays_aboard}
use Rattle.timetable.specs.Check.{header_verdict, stop_verdict, wrong_stops, wrong_trip, wrong_times, wrong_join, connection_verdict, file_verdict}
use Rattle.model.specs.Least.{least_below, tab}
use Rattle.model.specs.Notices.{flat, cut, area_of, rows_of, some, stands, stands_elsewhere, struck, inserted, entered, stands_right, unused_right, rows_from, rows_verdict}
use Rattle.model.specs.Times.{prevails, with_notice, primary_delay, expected_departure, expected_arrival, network_of}
use Rattle.model.specs.Graph.{first_on, waiting, transfer_to, first_departure, times, graph_of}
use Rattle.model.specs.Journeys.{can_be_first, can_follow}
use Rattle.model.specs.Predecessors.{choose, rounds, predecessors, follow, arriving, last_to, nowhere, journey_in}
use Rattle.model.specs.Margin.{margin_of}
use Rattle.model.specs.Drawn.{same}
use Rattle.model.specs.Parts.{part_verdict}
use Rattle.model.specs.Operations.{built, changed, enquired, margined, why_verdict, explained}
use Rattle.model.specs.Example.{example_j, in_bytes}
use Rattle.decimals.specs.Decimal.{all_digits, value_after, decimal, last_digits, decimal_of}
use Rattle.cuts.specs.Cut.{pieces}
use Rattle.meanings.specs.Meanings.{asked}
use Rattle.commands.specs.Commands.{meant, command_of}
use Rattle.input.specs.Lines.{input_lines}
use Rattle.arrivals.specs.Arrivals.{journey_text, arrives_line}
use Rattle.lines.specs.Lines.{counts_line, posted_line, withdrawn_line, refusal_line, margin_line, why_line, text_of}
use Rattle.turns.specs.Turns.{turn_of}
use Rattle.dialogue.specs.Talks.{talk}
use Rattle.console.specs.Printed.{printed}

-- "q 0 2 595", "p 7 1 10", "q 0 2 595", "p 3 0 6", "q 0 2 595", "q 0 2 607", "m 0 4"
unfoldable pub typed : List ℕ
typed =
    113 ∷ 32 ∷ 48 ∷ 32 ∷ 50 ∷ 32 ∷ 53 ∷ 57 ∷ 53 ∷ 10 ∷
    112 ∷ 32 ∷ 55 ∷ 32 ∷ 49 ∷ 32 ∷ 49 ∷ 48 ∷ 10 ∷
    113 ∷ 32 ∷ 48 ∷ 32 ∷ 50 ∷ 32 ∷ 53 ∷ 57 ∷ 53 ∷ 10 ∷
    112 ∷ 32 ∷ 51 ∷ 32 ∷ 48 ∷ 32 ∷ 54 ∷ 10 ∷
    113 ∷ 32 ∷ 48 ∷ 32 ∷ 50 ∷ 32 ∷ 53 ∷ 57 ∷ 53 ∷ 10 ∷
    113 ∷ 32 ∷ 48 ∷ 32 ∷ 50 ∷ 32 ∷ 54 ∷ 48 ∷ 55 ∷ 10 ∷
    109 ∷ 32 ∷ 48 ∷ 32 ∷ 52 ∷ 10 ∷
    []

-- "stops 3 rides 5", "arrives 640 by 0 1", "posted 7", "arrives 642 by 0 4", "posted 3", "arrives 650 by 0 1", "no 30 at 0", "margin -1"
unfoldable pub typed_answers : List ℕ
typed_answers =
    115 ∷ 116 ∷ 111 ∷ 112 ∷ 115 ∷ 32 ∷ 51 ∷ 32 ∷ 114 ∷ 105 ∷ 100 ∷ 101 ∷ 115 ∷ 32 ∷ 53 ∷ 10 ∷
    97 ∷ 114 ∷ 114 ∷ 105 ∷ 118 ∷ 101 ∷ 115 ∷ 32 ∷ 54 ∷ 52 ∷ 48 ∷ 32 ∷ 98 ∷ 121 ∷ 32 ∷ 48 ∷ 32 ∷ 49 ∷ 10 ∷
    112 ∷ 111 ∷ 115 ∷ 116 ∷ 101 ∷ 100 ∷ 32 ∷ 55 ∷ 10 ∷
    97 ∷ 114 ∷ 114 ∷ 105 ∷ 118 ∷ 101 ∷ 115 ∷ 32 ∷ 54 ∷ 52 ∷ 50 ∷ 32 ∷ 98 ∷ 121 ∷ 32 ∷ 48 ∷ 32 ∷ 52 ∷ 10 ∷
    112 ∷ 111 ∷ 115 ∷ 116 ∷ 101 ∷ 100 ∷ 32 ∷ 51 ∷ 10 ∷
    97 ∷ 114 ∷ 114 ∷ 105 ∷ 118 ∷ 101 ∷ 115 ∷ 32 ∷ 54 ∷ 53 ∷ 48 ∷ 32 ∷ 98 ∷ 121 ∷ 32 ∷ 48 ∷ 32 ∷ 49 ∷ 10 ∷
    110 ∷ 111 ∷ 32 ∷ 51 ∷ 48 ∷ 32 ∷ 97 ∷ 116 ∷ 32 ∷ 48 ∷ 10 ∷
    109 ∷ 97 ∷ 114 ∷ 103 ∷ 105 ∷ 110 ∷ 32 ∷ 45 ∷ 49 ∷ 10 ∷
    []

-- "p 7 1 10", "p 7 1 12", "q 0 2 595", "p 7 0 3", "w 7", "q 0 2 595"
unfoldable pub correcting : List ℕ
correcting =
    112 ∷ 32 ∷ 55 ∷ 32 ∷ 49 ∷ 32 ∷ 49 ∷ 48 ∷ 10 ∷
    112 ∷ 32 ∷ 55 ∷ 32 ∷ 49 ∷ 32 ∷ 49 ∷ 50 ∷ 10 ∷
    113 ∷ 32 ∷ 48 ∷ 32 ∷ 50 ∷ 32 ∷ 53 ∷ 57 ∷ 53 ∷ 10 ∷
    112 ∷ 32 ∷ 55 ∷ 32 ∷ 48 ∷ 32 ∷ 51 ∷ 10 ∷
    119 ∷ 32 ∷ 55 ∷ 10 ∷
    113 ∷ 32 ∷ 48 ∷ 32 ∷ 50 ∷ 32 ∷ 53 ∷ 57 ∷ 53 ∷ 10 ∷
    []

-- "stops 3 rides 5", "posted 7", "posted 7", "arrives 642 by 0 4", "no 25 at 0", "withdrawn 7", "arrives 640 by 0 1"
unfoldable pub correcting_answers : List ℕ
correcting_answers =
    115 ∷ 116 ∷ 111 ∷ 112 ∷ 115 ∷ 32 ∷ 51 ∷ 32 ∷ 114 ∷ 105 ∷ 100 ∷ 101 ∷ 115 ∷ 32 ∷ 53 ∷ 10 ∷
    112 ∷ 111 ∷ 115 ∷ 116 ∷ 101 ∷ 100 ∷ 32 ∷ 55 ∷ 10 ∷
    112 ∷ 111 ∷ 115 ∷ 116 ∷ 101 ∷ 100 ∷ 32 ∷ 55 ∷ 10 ∷
    97 ∷ 114 ∷ 114 ∷ 105 ∷ 118 ∷ 101 ∷ 115 ∷ 32 ∷ 54 ∷ 52 ∷ 50 ∷ 32 ∷ 98 ∷ 121 ∷ 32 ∷ 48 ∷ 32 ∷ 52 ∷ 10 ∷
    110 ∷ 111 ∷ 32 ∷ 50 ∷ 53 ∷ 32 ∷ 97 ∷ 116 ∷ 32 ∷ 48 ∷ 10 ∷
    119 ∷ 105 ∷ 116 ∷ 104 ∷ 100 ∷ 114 ∷ 97 ∷ 119 ∷ 110 ∷ 32 ∷ 55 ∷ 10 ∷
    97 ∷ 114 ∷ 114 ∷ 105 ∷ 118 ∷ 101 ∷ 115 ∷ 32 ∷ 54 ∷ 52 ∷ 48 ∷ 32 ∷ 98 ∷ 121 ∷ 32 ∷ 48 ∷ 32 ∷ 49 ∷ 10 ∷
    []

-- "p 7 1 10", "why 1", "p 3 1 10", "why 1", "p 1 0 20", "why 0", "why 1", "why 5"
unfoldable pub asking : List ℕ
asking =
    112 ∷ 32 ∷ 55 ∷ 32 ∷ 49 ∷ 32 ∷ 49 ∷ 48 ∷ 10 ∷
    119 ∷ 104 ∷ 121 ∷ 32 ∷ 49 ∷ 10 ∷
    112 ∷ 32 ∷ 51 ∷ 32 ∷ 49 ∷ 32 ∷ 49 ∷ 48 ∷ 10 ∷
    119 ∷ 104 ∷ 121 ∷ 32 ∷ 49 ∷ 10 ∷
    112 ∷ 32 ∷ 49 ∷ 32 ∷ 48 ∷ 32 ∷ 50 ∷ 48 ∷ 10 ∷
    119 ∷ 104 ∷ 121 ∷ 32 ∷ 48 ∷ 10 ∷
    119 ∷ 104 ∷ 121 ∷ 32 ∷ 49 ∷ 10 ∷
    119 ∷ 104 ∷ 121 ∷ 32 ∷ 53 ∷ 10 ∷
    []

-- "stops 3 rides 5", "posted 7", "why 1 delay 10 notice 7", "posted 3", "why 1 delay 10 notice 3",
-- "posted 1", "why 0 delay 20 notice 1", "why 1 delay 10 notice 3", "no 13 at 0"
unfoldable pub asking_answers : List ℕ
asking_answers =
    115 ∷ 116 ∷ 111 ∷ 112 ∷ 115 ∷ 32 ∷ 51 ∷ 32 ∷ 114 ∷ 105 ∷ 100 ∷ 101 ∷ 115 ∷ 32 ∷ 53 ∷ 10 ∷
    112 ∷ 111 ∷ 115 ∷ 116 ∷ 101 ∷ 100 ∷ 32 ∷ 55 ∷ 10 ∷
    119 ∷ 104 ∷ 121 ∷ 32 ∷ 49 ∷ 32 ∷ 100 ∷ 101 ∷ 108 ∷ 97 ∷ 121 ∷ 32 ∷ 49 ∷ 48 ∷ 32 ∷ 110 ∷ 111 ∷ 116 ∷ 105 ∷ 99 ∷ 101 ∷ 32 ∷ 55 ∷ 10 ∷
    112 ∷ 111 ∷ 115 ∷ 116 ∷ 101 ∷ 100 ∷ 32 ∷ 51 ∷ 10 ∷
    119 ∷ 104 ∷ 121 ∷ 32 ∷ 49 ∷ 32 ∷ 100 ∷ 101 ∷ 108 ∷ 97 ∷ 121 ∷ 32 ∷ 49 ∷ 48 ∷ 32 ∷ 110 ∷ 111 ∷ 116 ∷ 105 ∷ 99 ∷ 101 ∷ 32 ∷ 51 ∷ 10 ∷
    112 ∷ 111 ∷ 115 ∷ 116 ∷ 101 ∷ 100 ∷ 32 ∷ 49 ∷ 10 ∷
    119 ∷ 104 ∷ 121 ∷ 32 ∷ 48 ∷ 32 ∷ 100 ∷ 101 ∷ 108 ∷ 97 ∷ 121 ∷ 32 ∷ 50 ∷ 48 ∷ 32 ∷ 110 ∷ 111 ∷ 116 ∷ 105 ∷ 99 ∷ 101 ∷ 32 ∷ 49 ∷ 10 ∷
    119 ∷ 104 ∷ 121 ∷ 32 ∷ 49 ∷ 32 ∷ 100 ∷ 101 ∷ 108 ∷ 97 ∷ 121 ∷ 32 ∷ 49 ∷ 48 ∷ 32 ∷ 110 ∷ 111 ∷ 116 ∷ 105 ∷ 99 ∷ 101 ∷ 32 ∷ 51 ∷ 10 ∷
    110 ∷ 111 ∷ 32 ∷ 49 ∷ 51 ∷ 32 ∷ 97 ∷ 116 ∷ 32 ∷ 48 ∷ 10 ∷
    []

pub example_printed : (printed example_j typed ≡ typed_answers) × (printed example_j correcting ≡ correcting_answers) × (printed example_j asking ≡ asking_answers)
unfolding typed typed_answers correcting correcting_answers asking asking_answers
    printed talk turn_of input_lines pieces command_of meant asked decimal all_digits value_after
    text_of counts_line arrives_line posted_line withdrawn_line refusal_line margin_line why_line journey_text decimal_of last_digits
    example_j in_bytes built changed enquired margined why_verdict explained part_verdict same
    file_verdict header_verdict stop_verdict wrong_stops wrong_trip wrong_times wrong_join connection_verdict first_below
    transfer_time trip from to scheduled_departure scheduled_arrival stays_aboard
    least_below tab flat cut area_of rows_of some stands stands_elsewhere struck inserted entered stands_right unused_right rows_from rows_verdict
    prevails with_notice primary_delay expected_departure expected_arrival network_of first_on waiting transfer_to first_departure times graph_of
    can_be_first can_follow choose rounds predecessors follow arriving last_to nowhere journey_in margin_of
example_printed = (refl, refl, refl)
