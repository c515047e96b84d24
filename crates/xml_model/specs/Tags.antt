-- Tags: their attributes, and the unit, "one tag with the text in front of it". The grammar is in `Bytes`.
use Rattle.std.specs.Prelude.{ℕ, ◌+◌, ◌-◌, Bool, true, false, cond, not, ◌&&◌, ◌||◌, List, length, eqb, ltb}
use Rattle.xml_model.specs.Shapes.{Attribute}
use Rattle.xml_model.specs.Shapes.{Tail}
use Rattle.xml_model.specs.Shapes.{Tag}
use Rattle.xml_model.specs.declared.Range.{Range}
use Rattle.xml_model.specs.Repeat.{Next, stop, more, repeat}
use Rattle.xml_model.specs.Bytes.{byte_at, part, same, is_name_start, spaces, names, texts, run_end, is_mark, stuck, looked}

-- ## One attribute: Name S* '=' S* quote value quote

unfoldable pub stuck_attribute : List ℕ → ℕ → Attribute
stuck_attribute s i = record { code = stuck s i; name = i; end = i; from = i; to = looked s i }

-- the value whose quote is at v, of the attribute named from i to e
unfoldable pub value_at : List ℕ → ℕ → ℕ → ℕ → Attribute
value_at s i e v =
    let q = byte_at s v in
    let z = run_end q s (v + 1) in
    cond (eqb q 34 || eqb q 39)
    (cond (eqb (byte_at s z) q) (record { code = 0; name = i; end = e; from = v + 1; to = z }) (stuck_attribute s z))
    (stuck_attribute s v)

unfoldable pub equals_at : List ℕ → ℕ → ℕ → ℕ → Attribute
equals_at s i e q = cond (eqb (byte_at s q) 61) (value_at s i e (run_end spaces s (q + 1))) (stuck_attribute s q)

-- the attribute whose name starts at i
unfoldable pub attribute_at : List ℕ → ℕ → Attribute
attribute_at s i =
    cond (is_name_start (byte_at s i))
    (equals_at s i (run_end names s i) (run_end spaces s (run_end names s i)))
    (stuck_attribute s i)

-- ## "no Name twice in one tag"

-- one of the attributes from j on and before p has the name v
unfoldable pub given_step : List ℕ → ℕ → List ℕ → ℕ → Next ℕ Bool
given_step s p v j =
    let a = attribute_at s (run_end spaces s j) in
    cond (ltb j p)
    (cond (eqb a.code 0)
    (cond (same v (part s a.name a.end)) (stop true) (more (a.to + 1)))
    (stop false))
    (stop false)

unfoldable pub given : List ℕ → ℕ → List ℕ → ℕ → Bool
given s p v j = repeat (λ i. length s - i) (given_step s p v) false j

-- ## What follows a tag's name

unfoldable pub tailed : ℕ → ℕ → ℕ → Tail
tailed code form next = record { code = code; form = form; next = next }

abbrev pub stuck_tail : List ℕ → ℕ → Tail
stuck_tail s i = tailed (stuck s i) 0 (looked s i)

-- a `/` is at g
unfoldable pub empty_tail : List ℕ → ℕ → Tail
empty_tail s g = cond (eqb (byte_at s (g + 1)) 62) (tailed 0 1 (g + 2)) (stuck_tail s (g + 1))

-- the attribute a, of a tag whose attributes start at first; j is the end of what stands before it. The second of two with one
-- name is refused at its closing quote.
unfoldable pub attribute_step : List ℕ → ℕ → ℕ → Attribute → Next ℕ Tail
attribute_step s first j a =
    cond (eqb a.code 0)
    (cond (given s j (part s a.name a.end) first) (stop (tailed 40 0 (a.to + 1))) (more (a.to + 1)))
    (stop (tailed a.code 0 a.to))

unfoldable pub tail_step : List ℕ → ℕ → ℕ → Next ℕ Tail
tail_step s first j =
    let g = run_end spaces s j in
    let b = byte_at s g in
    cond (eqb b 62) (stop (tailed 0 0 (g + 1)))
    (cond (eqb b 47) (stop (empty_tail s g))
    (cond (eqb g j) (stop (stuck_tail s g))
    (attribute_step s first j (attribute_at s g))))

unfoldable pub tail_of : List ℕ → ℕ → Tail
tail_of s first = repeat (λ j. length s - j) (tail_step s first) (stuck_tail s (length s)) first

-- "Attributes id, idref and timer (0 if missing) are read, others skipped": the value of the attribute named v, from j on
unfoldable pub look_step : List ℕ → List ℕ → ℕ → Next ℕ Range
look_step s v j =
    let a = attribute_at s (run_end spaces s j) in
    cond (eqb a.code 0)
    (cond (same v (part s a.name a.end)) (stop (record { from = a.from; to = a.to })) (more (a.to + 1)))
    (stop (record { from = 0; to = 0 }))

unfoldable pub look : List ℕ → List ℕ → ℕ → Range
look s v j = repeat (λ i. length s - i) (look_step s v) (record { from = 0; to = 0 }) j

-- ## A unit

-- the scan is stuck at i
unfoldable pub stuck_tag : List ℕ → ℕ → Tag
stuck_tag s i = record { code = stuck s i; form = 0; from = 0; at = 0; name = 0; end = 0; next = looked s i }

-- '</' Name S* '>', where the name ends at e
unfoldable pub end_tag : List ℕ → ℕ → ℕ → ℕ → Tag
end_tag s from at e =
    let g = run_end spaces s e in
    cond (eqb (byte_at s g) 62)
    (record { code = 0; form = 2; from = from; at = at; name = at + 2; end = e; next = g + 1 })
    (stuck_tag s g)

-- '<' Name (S+ Attr)* S* '>' or '/>', where the name ends at e
unfoldable pub start_tag : List ℕ → ℕ → ℕ → ℕ → Tag
start_tag s from at e =
    let x = tail_of s e in
    record { code = x.code; form = x.form; from = from; at = at; name = at + 1; end = e; next = x.next }

-- the tag at a `<`
unfoldable pub tag_at : List ℕ → ℕ → ℕ → Tag
tag_at s from at =
    cond (eqb (byte_at s (at + 1)) 47)
    (cond (is_name_start (byte_at s (at + 2))) (end_tag s from at (run_end names s (at + 2))) (stuck_tag s (at + 2)))
    (cond (is_name_start (byte_at s (at + 1))) (start_tag s from at (run_end names s (at + 1))) (stuck_tag s (at + 1)))

-- the unit that starts at i: the text up to the next `<`, and the tag there
unfoldable pub unit_at : List ℕ → ℕ → Tag
unit_at s i =
    let at = run_end texts s i in
    cond (eqb (byte_at s at) 60 && not (is_mark s at)) (tag_at s i at) (stuck_tag s at)
