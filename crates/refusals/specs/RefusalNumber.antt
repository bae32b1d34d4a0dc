-- The refusals of documents 01 and 02 by name. Assumes nothing.
use Rattle.std.specs.Prelude.{ℕ}

-- the file is shorter than its header
abbrev pub short_file : ℕ
short_file = 1

-- it does not start with the letters TTG
abbrev pub wrong_mark : ℕ
wrong_mark = 2

abbrev pub wrong_version : ℕ
wrong_version = 3

abbrev pub wrong_stop_count : ℕ
wrong_stop_count = 4

abbrev pub wrong_connection_count : ℕ
wrong_connection_count = 5

-- its length is not the one that its counts give
abbrev pub wrong_length : ℕ
wrong_length = 6

-- a stop's minimum transfer time is too long
abbrev pub wrong_transfer_time : ℕ
wrong_transfer_time = 7

-- a connection's stops are not two stops of the timetable
abbrev pub wrong_stops : ℕ
wrong_stops = 8

-- its trip is neither that of the connection before nor one more
abbrev pub wrong_trip : ℕ
wrong_trip = 9

-- it does not arrive after it departs, or not within the timetable
abbrev pub wrong_times : ℕ
wrong_times = 10

-- it does not go on where and after the connection before it in its trip arrives
abbrev pub wrong_join : ℕ
wrong_join = 11

-- a notice's number is 0
abbrev pub no_number : ℕ
no_number = 12

-- a connection is not below the timetable's count
abbrev pub unknown_connection : ℕ
unknown_connection = 13

-- a delay is outside its limits
abbrev pub wrong_delay : ℕ
wrong_delay = 14

-- a stop is not below the timetable's count
abbrev pub unknown_stop : ℕ
unknown_stop = 15

-- an enquiry's time is later than any expected time
abbrev pub too_late : ℕ
too_late = 16

-- the two connections of a margin do not meet at a stop
abbrev pub not_joined : ℕ
not_joined = 17

-- a line of the dialogue is no command
abbrev pub unreadable : ℕ
unreadable = 18

-- the notice area is too short
abbrev pub short_notices : ℕ
short_notices = 21

-- the graph area is too short
abbrev pub short_graph : ℕ
short_graph = 22

-- the notice area breaks its rules, at a row or in its count
abbrev pub wrong_row : ℕ
wrong_row = 23

-- the graph area is not the one of the timetable and the notices
abbrev pub wrong_graph : ℕ
wrong_graph = 24

-- a notice of this number stands on another connection
abbrev pub stands_elsewhere : ℕ
stands_elsewhere = 25

-- as many notices stand as may
abbrev pub no_room : ℕ
no_room = 26

-- no notice of this number stands
abbrev pub not_standing : ℕ
not_standing = 27

-- the predecessors' area is too short
abbrev pub short_work : ℕ
short_work = 28

-- the journey's area is too short
abbrev pub short_journey : ℕ
short_journey = 29

-- there is no valid journey
abbrev pub unreachable : ℕ
unreachable = 30

-- a row of the text is not as it has to be, or alone in its trip
abbrev pub wrong_text_row : ℕ
wrong_text_row = 31

-- the output area is too short
abbrev pub short_output : ℕ
short_output = 32
