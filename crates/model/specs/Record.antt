-- An event record: the numbers of operations and kinds, and what its bytes decode to.
-- Document 01, sections "Events" and "Image" (the record). Quotations are that document's, if no order is named.
use Rattle.std.specs.Prelude.{ℕ, not, cond, List, [], ◌∷◌, length, get_or, ltb, eqb}
use Rattle.numbers.specs.Fields.{Width, bits8, bits16, bits32, bits64, size, values_at}
use Rattle.book.specs.declared.Event.{Event}
use Rattle.book.specs.declared.Kind.{Kind}
use Rattle.book.specs.declared.Kind.TheVariants.{Play, Display, Execute, Print, Export}
use Rattle.book.specs.Codes.{kind_code}
use Rattle.book.specs.declared.Request.{Request}
use Rattle.book.specs.declared.Request.TheVariants.{Begin, Continue, Stop, Cancel}
use Rattle.book.specs.Decoded.{Decoded, Invalid, Valid}
use Rattle.model.specs.Book.{request_legal}

-- "kind (1 play, 2 display, 3 execute, 4 print, 5 export)"
abbrev pub kind_number : Kind → ℕ
kind_number = kind_code

-- "operation (1 begin, 2 continue, 3 stop)"; "asset and kind are 0 otherwise"; order 8 of document 02: "Operation 4, with asset and kind 0"
abbrev pub operation_number : Request → ℕ
operation_number (Begin kind asset) = 1
operation_number Continue = 2
operation_number Stop = 3
operation_number Cancel = 4

abbrev pub request_asset : Request → ℕ
request_asset (Begin kind asset) = asset
request_asset Continue = 0
request_asset Stop = 0
request_asset Cancel = 0

abbrev pub request_kind : Request → ℕ
request_kind (Begin kind asset) = kind_number kind
request_kind Continue = 0
request_kind Stop = 0
request_kind Cancel = 0

-- "13-byte events (player 8, number 32, operation 8, asset 16, kind 8, time 32)"; order 4 of document 02: the number has 64 bits, and
-- "Event records grow to 17 bytes"
abbrev pub record_widths : List Width
record_widths = bits8 ∷ bits64 ∷ bits8 ∷ bits16 ∷ bits8 ∷ bits32 ∷ []

-- how many bytes that is
abbrev pub record_size : ℕ
record_size = 17

-- field k of a record, in that order
abbrev pub record_field : ℕ → List ℕ → ℕ
record_field k s = get_or (values_at record_widths 0 s) k 0

-- a number as a kind; a number that is no kind has already been refused
unfoldable pub kind_of : ℕ → Kind
kind_of k = cond (eqb k 1) Play (cond (eqb k 2) Display (cond (eqb k 3) Execute (cond (eqb k 4) Print Export)))

-- three numbers as a request, likewise
unfoldable pub request_of : ℕ → ℕ → ℕ → Request
request_of operation asset kind =
    cond (eqb operation 1) (Begin (kind_of kind) asset)
    (cond (eqb operation 2) Continue
    (cond (eqb operation 3) Stop Cancel))

-- the event in 17 bytes
unfoldable pub event_in : List ℕ → Event
event_in s = record {
  player = record_field 0 s;
  number = record_field 1 s;
  request = request_of (record_field 2 s) (record_field 3 s) (record_field 4 s);
  time = record_field 5 s;
}

-- "6 | event record not 13 bytes", and in order 4 "6 reads that length", 17; "Order of checks: 2, 1, then the number."
unfoldable pub decoded : List ℕ → Decoded
decoded s =
    cond (not (eqb (length s) (size record_widths))) (Invalid 6)
    (cond (ltb 15 (record_field 0 s)) (Invalid 2)
    (cond (not (request_legal (record_field 2 s) (record_field 3 s) (record_field 4 s))) (Invalid 1)
    (Valid (event_in s))))
