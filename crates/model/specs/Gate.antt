-- The checks before an event is taken.
-- Document 01, section "Events": "Order of checks"; order 4 of document 02. Quotations are document 01's, if the order is not named.
use Rattle.std.specs.Prelude.{ℕ, ◌+◌, ◌/◌, ◌%◌, Bool, not, ◌&&◌, ◌||◌, cond, leb, ltb, eqb}
use Rattle.book.specs.declared.Last.{Last}
use Rattle.book.specs.declared.Event.{Event}
use Rattle.book.specs.declared.Request.{Request}
use Rattle.book.specs.Gate.{Gate, Refuse, Resend, Take}
use Rattle.model.specs.Book.{latest_time}
use Rattle.model.specs.Record.{operation_number, request_asset, request_kind}

-- order 4: "now only the largest 64-bit number has none after it"
abbrev pub largest_number : ℕ
largest_number = 18446744073709551615

-- order 4: "New players put a 32-bit boot number before their counter"
abbrev pub boot_of : ℕ → ℕ
boot_of number = number / 4294967296

abbrev pub counter_of : ℕ → ℕ
counter_of number = number % 4294967296

-- "a *resend* if operation, asset and kind are equal"
unfoldable pub same_request : Last → Request → Bool
same_request l q =
    eqb (operation_number q) l.operation && eqb (request_asset q) l.asset && eqb (request_kind q) l.kind

-- "Equal to the player's last number (not 0)"
unfoldable pub same_number : Last → ℕ → Bool
same_number l number = not (eqb l.number 0) && eqb number l.number

-- "Anything but last + 1: 3"; order 4: "Counter 1 under a greater boot number is in line too". A number here is any natural number: one
-- above the largest is not in line.
unfoldable pub in_line : Last → ℕ → Bool
in_line l number =
    leb number largest_number
    && (eqb number (l.number + 1) || (ltb (boot_of l.number) (boot_of number) && eqb (counter_of number) 1))

-- "t below the book's time or above 4,000,000,000: 5"
unfoldable pub timely : ℕ → ℕ → Bool
timely now t = leb now t && leb t latest_time

-- the checks in order
unfoldable pub gate : ℕ → Last → Event → Gate
gate now l e =
    cond (ltb 15 e.player) (Refuse 2)
    (cond (same_number l e.number) (cond (same_request l e.request) Resend (Refuse 4))
    (cond (not (in_line l e.number)) (Refuse 3)
    (cond (not (timely now e.time)) (Refuse 5)
    Take)))
