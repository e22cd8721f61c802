-- The scanner as a function: one step for each character.
use Rattle.std.specs.Prelude.{ℕ, ◌+◌, ◌-◌, [], ◌∷◌, Option, None, Some, Bool, true, false, ◌&&◌, if◌then◌else◌, nat_eq}
use Rattle.std.specs.Option.{option_and_then}
use Rattle.js_chars.specs.Names.{is_identifier_start, is_identifier_part}
use Rattle.js_pattern.specs.Patterns.{Text, none, with_look_behind, with_named_group, with_property_escape, is_property_part, is_p, is_modifier, is_look}
use Rattle.js_pattern.specs.declared.pattern.Forms.{Forms}
use Rattle.js_pattern.specs.declared.pattern.Mode.{Mode}
use Rattle.js_pattern.specs.declared.scanner.Scanner.{Scanner}
use Rattle.js_pattern.specs.declared.scanner.Place.{Place}
use Rattle.js_pattern.specs.declared.scanner.Place.TheVariants.{Between, Backslash, Property, PropertyBrace, PropertyName, Paren, Question, Letters, LettersOff, Angle, GroupName}

abbrev pub start : Scanner
start = record { groups = 0; classes = 0; place = Between; forms = none }

abbrev pub moved : Scanner → Place → Scanner
moved s p = record s { place = p }

abbrev pub found : Scanner → Forms → Scanner
found s x = record s { place = Between; forms = x }

abbrev pub in_items : Scanner → ℕ → Option Scanner
in_items s c =
    if nat_eq c 92 then Some (moved s Backslash)
    else if nat_eq c 91 then Some (record s { classes = 1; place = Between })
    else if nat_eq c 40 then Some (record s { groups = s.groups + 1; place = Paren })
    else if nat_eq c 41 then (if nat_eq s.groups 0 then None else Some (record s { groups = s.groups - 1; place = Between }))
    else Some (moved s Between)

abbrev pub in_class : Mode → Scanner → ℕ → Scanner
in_class m s c =
    if nat_eq c 92 then moved s Backslash
    else if m.nests && nat_eq c 91 then record s { classes = s.classes + 1; place = Between }
    else if nat_eq c 93 then record s { classes = s.classes - 1; place = Between }
    else moved s Between

abbrev pub between : Mode → Scanner → ℕ → Option Scanner
between m s c = if nat_eq s.classes 0 then in_items s c else Some (in_class m s c)

abbrev pub escaped : Mode → Scanner → ℕ → Scanner
escaped m s c = if m.unicode && is_p c then moved s Property else moved s Between

abbrev pub in_property : Scanner → ℕ → Option Scanner
in_property s c =
    if is_property_part c then Some (moved s PropertyName)
    else if nat_eq c 125 then Some (found s (with_property_escape s.forms))
    else None

abbrev pub in_letters : Scanner → Place → ℕ → Option Scanner
in_letters s p c =
    if is_modifier c then Some (moved s p)
    else if nat_eq c 58 then Some (moved s Between)
    else None

abbrev pub in_modifiers : Scanner → ℕ → Option Scanner
in_modifiers s c = if nat_eq c 45 then Some (moved s LettersOff) else in_letters s Letters c

abbrev pub behind_question : Scanner → ℕ → Option Scanner
behind_question s c =
    if nat_eq c 60 then Some (moved s Angle)
    else if is_look c then Some (moved s Between)
    else in_modifiers s c

abbrev pub behind_angle : Scanner → ℕ → Option Scanner
behind_angle s c =
    if is_look c then Some (found s (with_look_behind s.forms))
    else if is_identifier_start c then Some (moved s GroupName)
    else None

abbrev pub in_name : Scanner → ℕ → Option Scanner
in_name s c =
    if nat_eq c 62 then Some (found s (with_named_group s.forms))
    else if is_identifier_part c then Some (moved s GroupName)
    else None

abbrev pub step_at : Place → Mode → Scanner → ℕ → Option Scanner
step_at Between m s c = between m s c
step_at Backslash m s c = Some (escaped m s c)
step_at Property m s c = if nat_eq c 123 then Some (moved s PropertyBrace) else None
step_at PropertyBrace m s c = if is_property_part c then Some (moved s PropertyName) else None
step_at PropertyName m s c = in_property s c
step_at Paren m s c = if nat_eq c 63 then Some (moved s Question) else between m s c
step_at Question m s c = behind_question s c
step_at Letters m s c = in_modifiers s c
step_at LettersOff m s c = in_letters s LettersOff c
step_at Angle m s c = behind_angle s c
step_at GroupName m s c = in_name s c

abbrev pub step : Mode → Scanner → ℕ → Option Scanner
step m s c = step_at s.place m s c

abbrev pub is_between : Place → Bool
is_between Between = true
is_between Backslash = false
is_between Property = false
is_between PropertyBrace = false
is_between PropertyName = false
is_between Paren = false
is_between Question = false
is_between Letters = false
is_between LettersOff = false
is_between Angle = false
is_between GroupName = false

abbrev pub finish : Scanner → Option Forms
finish s = if is_between s.place && nat_eq s.groups 0 && nat_eq s.classes 0 then Some s.forms else None

abbrev pub run : Mode → Text → Scanner → Option Forms
run m [] s = finish s
run m (c ∷ cs) s = option_and_then (run m cs) (step m s c)

abbrev pub scan : Mode → Text → Option Forms
scan m text = run m text start
