-- The numbers of kinds and refusals.
-- Document 01, sections "Events" and "Answers": "kind (1 play, 2 display, 3 execute, 4 print, 5 export)", and the table of codes; 43 is
-- order 3's, 44 order 8's of document 02.
use Rattle.std.specs.Prelude.{ℕ}
use Rattle.book.specs.declared.Kind.{Kind}
use Rattle.book.specs.declared.EventError.{EventError}
use Rattle.book.specs.declared.ImageError.{ImageError}

abbrev pub kind_code : Kind → ℕ
kind_code Kind.Play = 1
kind_code Kind.Display = 2
kind_code Kind.Execute = 3
kind_code Kind.Print = 4
kind_code Kind.Export = 5

abbrev pub event_code : EventError → ℕ
event_code EventError.Request = 1
event_code EventError.Player = 2
event_code EventError.OutOfLine = 3
event_code EventError.OtherRequest = 4
event_code EventError.Time = 5
event_code EventError.Length = 6
event_code EventError.Unusable = 10
event_code EventError.AlreadyOpen = 11
event_code EventError.Unsuitable = 12
event_code EventError.Spent = 13
event_code EventError.NotOpen = 14
event_code EventError.NoMore = 15
event_code EventError.Lines = 30
event_code EventError.SwitchOff = 43
event_code EventError.TooLate = 44

abbrev pub image_code : ImageError → ℕ
image_code ImageError.Length = 20
image_code ImageError.Mark = 21
image_code ImageError.Version = 22
image_code ImageError.Header = 23
image_code ImageError.Assets = 24
image_code ImageError.Entries = 25
image_code ImageError.Players = 26
image_code ImageError.Meters = 27
