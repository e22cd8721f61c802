-- The scanner takes every pattern, and finds its forms.
use Rattle.std.proofs.Common.{◌≡◌, ℕ, ◌+◌, ◌-◌, [], ◌∷◌, ◌++◌, Some, true, false, ◌&&◌, nat_eq, refl, ap, ◌∙◌}
use Rattle.std.specs.Option.{option_and_then}
use Rattle.std.specs.List.{list_all}
use Rattle.js_chars.specs.Names.{is_identifier_start, is_identifier_part}
use Rattle.js_pattern.specs.Patterns as p
use Rattle.js_pattern.specs.Patterns.{Text, Escape, character, property, Parts, no_part, part_escape, part_class, part_member, Modifiers, letters_on, letters_off, Opener, capture, plain, look_ahead, look_behind, named, modifiers, Items, no_item, item_escape, item_class, item_group, item_other, IsPattern}
use Rattle.js_pattern.specs.Scan.{run, step, scan, in_class, in_items, moved}
use Rattle.js_pattern.specs.declared.pattern.Forms.{Forms}
use Rattle.js_pattern.specs.declared.pattern.Mode.{Mode}
use Rattle.js_pattern.specs.declared.scanner.Scanner.{Scanner}
use Rattle.js_pattern.specs.declared.scanner.Place.{Place}
use Rattle.js_pattern.specs.declared.scanner.Place.TheVariants.{Between, Backslash, Property, PropertyBrace, PropertyName, Paren, Question, Letters, LettersOff, Angle, GroupName}
use Rattle.js_pattern.proofs.Choices.{not_true, left_of, right_of, neither, never, when_true, when_false, either_way, apart, positive, less_one, greater_ends, equals_begins_none, bang_begins_none}

abbrev at : ℕ → ℕ → Place → Forms → Scanner
at d k place x = record { groups = d; classes = k; place = place; forms = x }

-- one character, by what the step gives
by_step : (m : Mode) (s t : Scanner) (c : ℕ) (a : Text) → step m s c ≡ Some t → run m (c ∷ a) s ≡ run m a t
by_step m s t c a h = ap (λ r. option_and_then (run m a) r) h

-- Escapes

backslash : (m : Mode) (d k : ℕ) (x : Forms) → step m (at d k Between x) 92 ≡ Some (at d k Backslash x)
backslash m d k x = either_way (nat_eq k 0) (Some (at d k Backslash x))

property_part : (m : Mode) (d k c : ℕ) (x : Forms) → p.is_property_part c ≡ true → step m (at d k PropertyName x) c ≡ Some (at d k PropertyName x)
property_part m d k c x h = when_true (p.is_property_part c) _ _ h

property_start : (m : Mode) (d k c : ℕ) (x : Forms) → p.is_property_part c ≡ true → step m (at d k PropertyBrace x) c ≡ Some (at d k PropertyName x)
property_start m d k c x h = when_true (p.is_property_part c) _ _ h

property_end : (m : Mode) (d k : ℕ) (name a : Text) (x : Forms) → list_all p.is_property_part name ≡ true →
    run m (name ++ 125 ∷ a) (at d k PropertyName x) ≡ run m a (at d k Between (p.with_property_escape x))
property_end m d k [] a x h = refl
property_end m d k (c ∷ cs) a x h =
    by_step m (at d k PropertyName x) (at d k PropertyName x) c (cs ++ 125 ∷ a) (property_part m d k c x (left_of _ _ h))
    ∙ property_end m d k cs a x (right_of _ _ h)

property_read : (m : Mode) (d k : ℕ) (name a : Text) (x : Forms) → p.is_property_name name ≡ true →
    run m (name ++ 125 ∷ a) (at d k PropertyBrace x) ≡ run m a (at d k Between (p.with_property_escape x))
property_read m d k [] a x h = cc
property_read m d k (c ∷ cs) a x h =
    by_step m (at d k PropertyBrace x) (at d k PropertyName x) c (cs ++ 125 ∷ a) (property_start m d k c x (left_of _ _ h))
    ∙ property_end m d k cs a x (right_of _ _ h)

escaped_character : (m : Mode) (d k c : ℕ) (x : Forms) → m.unicode && p.is_p c ≡ false → step m (at d k Backslash x) c ≡ Some (at d k Between x)
escaped_character m d k c x h = ap Some (when_false (m.unicode && p.is_p c) _ _ h)

escaped_p : (m : Mode) (d k c : ℕ) (x : Forms) → m.unicode && p.is_p c ≡ true → step m (at d k Backslash x) c ≡ Some (at d k Property x)
escaped_p m d k c x h = ap Some (when_true (m.unicode && p.is_p c) _ _ h)

escape_read : {m : Mode} {a b : Text} {x y : Forms} → Escape m a b x y → (d k : ℕ) → run m a (at d k Between x) ≡ run m b (at d k Between y)
escape_read {m = m} (character {c = c} {a = a} {x = x} h) d k =
    by_step m (at d k Between x) (at d k Backslash x) 92 (c ∷ a) (backslash m d k x)
    ∙ by_step m (at d k Backslash x) (at d k Between x) c a (escaped_character m d k c x h)
escape_read {m = m} (property {c = c} name {a = a} {x = x} h n) d k =
    by_step m (at d k Between x) (at d k Backslash x) 92 (c ∷ 123 ∷ (name ++ 125 ∷ a)) (backslash m d k x)
    ∙ by_step m (at d k Backslash x) (at d k Property x) c (123 ∷ (name ++ 125 ∷ a)) (escaped_p m d k c x h)
    ∙ property_read m d k name a x n

-- Classes

in_a_class : (m : Mode) (d k c : ℕ) (x : Forms) → step m (at d (k + 1) Between x) c ≡ Some (in_class m (at d (k + 1) Between x) c)
in_a_class m d k c x = when_false (nat_eq (k + 1) 0) _ _ (positive k)

member_stays : (m : Mode) (s : Scanner) (c : ℕ) → p.is_member m c ≡ true → in_class m s c ≡ moved s Between
member_stays m s c h =
    when_false (nat_eq c 92) (moved s Backslash) _ (not_true (nat_eq c 92) (left_of _ _ (left_of _ _ h)))
    ∙ when_false (m.nests && nat_eq c 91) _ _ (not_true (m.nests && nat_eq c 91) (right_of _ _ h))
    ∙ when_false (nat_eq c 93) _ _ (not_true (nat_eq c 93) (right_of _ _ (left_of _ _ h)))

member : (m : Mode) (d k c : ℕ) (x : Forms) → p.is_member m c ≡ true → step m (at d (k + 1) Between x) c ≡ Some (at d (k + 1) Between x)
member m d k c x h = in_a_class m d k c x ∙ ap Some (member_stays m (at d (k + 1) Between x) c h)

opens_class : (m : Mode) (d k : ℕ) (x : Forms) → m.nests ≡ true → step m (at d (k + 1) Between x) 91 ≡ Some (at d (k + 1 + 1) Between x)
opens_class m d k x h = in_a_class m d k 91 x ∙ rw h refl

ends_class : (m : Mode) (d k : ℕ) (x : Forms) → in_class m (at d (k + 1) Between x) 93 ≡ at d (k + 1 - 1) Between x
ends_class m d k x = when_false (m.nests && false) _ _ (never m.nests)

closes_class : (m : Mode) (d k : ℕ) (x : Forms) → step m (at d (k + 1) Between x) 93 ≡ Some (at d k Between x)
closes_class m d k x = in_a_class m d k 93 x ∙ ap Some (ends_class m d k x) ∙ ap (λ j. Some (at d j Between x)) (less_one k)

parts_read : {m : Mode} {a b : Text} {x y : Forms} → Parts m a b x y → (d k : ℕ) → run m a (at d (k + 1) Between x) ≡ run m b (at d (k + 1) Between y)
parts_read no_part d k = refl
parts_read (part_escape e r) d k = escape_read e d (k + 1) ∙ parts_read r d k
parts_read {m = m} (part_class {a = a} {b = b} {x = x} {y = y} n i r) d k =
    by_step m (at d (k + 1) Between x) (at d (k + 1 + 1) Between x) 91 a (opens_class m d k x n)
    ∙ parts_read i d (k + 1)
    ∙ by_step m (at d (k + 1 + 1) Between y) (at d (k + 1) Between y) 93 b (closes_class m d (k + 1) y)
    ∙ parts_read r d k
parts_read {m = m} (part_member {c = c} {a = a} {x = x} h r) d k =
    by_step m (at d (k + 1) Between x) (at d (k + 1) Between x) c a (member m d k c x h) ∙ parts_read r d k

-- Openers

on_letter : (m : Mode) (d k c : ℕ) (x : Forms) → p.is_modifier c ≡ true → step m (at d k Letters x) c ≡ Some (at d k Letters x)
on_letter m d k c x h = when_false (nat_eq c 45) _ _ (apart p.is_modifier c 45 h refl) ∙ when_true (p.is_modifier c) _ _ h

off_letter : (m : Mode) (d k c : ℕ) (x : Forms) → p.is_modifier c ≡ true → step m (at d k LettersOff x) c ≡ Some (at d k LettersOff x)
off_letter m d k c x h = when_true (p.is_modifier c) _ _ h

first_letter : (m : Mode) (d k c : ℕ) (x : Forms) → p.is_modifier c ≡ true → step m (at d k Question x) c ≡ Some (at d k Letters x)
first_letter m d k c x h =
    when_false (nat_eq c 60) _ _ (apart p.is_modifier c 60 h refl)
    ∙ when_false (p.is_look c) _ _ (neither (nat_eq c 61) (nat_eq c 33) (apart p.is_modifier c 61 h refl) (apart p.is_modifier c 33 h refl))
    ∙ on_letter m d k c x h

off_read : (m : Mode) (d k : ℕ) (off a : Text) (x : Forms) → list_all p.is_modifier off ≡ true →
    run m (off ++ 58 ∷ a) (at d k LettersOff x) ≡ run m a (at d k Between x)
off_read m d k [] a x h = refl
off_read m d k (c ∷ cs) a x h =
    by_step m (at d k LettersOff x) (at d k LettersOff x) c (cs ++ 58 ∷ a) (off_letter m d k c x (left_of _ _ h)) ∙ off_read m d k cs a x (right_of _ _ h)

on_read : (m : Mode) (d k : ℕ) (on a : Text) (x : Forms) → list_all p.is_modifier on ≡ true →
    run m (on ++ 58 ∷ a) (at d k Letters x) ≡ run m a (at d k Between x)
on_read m d k [] a x h = refl
on_read m d k (c ∷ cs) a x h =
    by_step m (at d k Letters x) (at d k Letters x) c (cs ++ 58 ∷ a) (on_letter m d k c x (left_of _ _ h)) ∙ on_read m d k cs a x (right_of _ _ h)

on_off_read : (m : Mode) (d k : ℕ) (on off a : Text) (x : Forms) → list_all p.is_modifier on ≡ true → list_all p.is_modifier off ≡ true →
    run m (on ++ 45 ∷ (off ++ 58 ∷ a)) (at d k Letters x) ≡ run m a (at d k Between x)
on_off_read m d k [] off a x h g = off_read m d k off a x g
on_off_read m d k (c ∷ cs) off a x h g =
    by_step m (at d k Letters x) (at d k Letters x) c (cs ++ 45 ∷ (off ++ 58 ∷ a)) (on_letter m d k c x (left_of _ _ h)) ∙ on_off_read m d k cs off a x (right_of _ _ h) g

modifiers_read : (m : Mode) {a b : Text} → Modifiers a b → (d k : ℕ) (x : Forms) → run m a (at d k Question x) ≡ run m b (at d k Between x)
modifiers_read m (letters_on [] h) d k x = refl
modifiers_read m (letters_on (c ∷ cs) {a = a} h) d k x =
    by_step m (at d k Question x) (at d k Letters x) c (cs ++ 58 ∷ a) (first_letter m d k c x (left_of _ _ h)) ∙ on_read m d k cs a x (right_of _ _ h)
modifiers_read m (letters_off [] off {a = a} h g) d k x = off_read m d k off a x g
modifiers_read m (letters_off (c ∷ cs) off {a = a} h g) d k x =
    by_step m (at d k Question x) (at d k Letters x) c (cs ++ 45 ∷ (off ++ 58 ∷ a)) (first_letter m d k c x (left_of _ _ h)) ∙ on_off_read m d k cs off a x (right_of _ _ h) g

name_part : (m : Mode) (d k c : ℕ) (x : Forms) → is_identifier_part c ≡ true → step m (at d k GroupName x) c ≡ Some (at d k GroupName x)
name_part m d k c x h = when_false (nat_eq c 62) _ _ (apart is_identifier_part c 62 h greater_ends) ∙ when_true (is_identifier_part c) _ _ h

name_start : (m : Mode) (d k c : ℕ) (x : Forms) → is_identifier_start c ≡ true → step m (at d k Angle x) c ≡ Some (at d k GroupName x)
name_start m d k c x h =
    when_false (p.is_look c) _ _ (neither (nat_eq c 61) (nat_eq c 33) (apart is_identifier_start c 61 h equals_begins_none) (apart is_identifier_start c 33 h bang_begins_none))
    ∙ when_true (is_identifier_start c) _ _ h

name_end : (m : Mode) (d k : ℕ) (name a : Text) (x : Forms) → list_all is_identifier_part name ≡ true →
    run m (name ++ 62 ∷ a) (at d k GroupName x) ≡ run m a (at d k Between (p.with_named_group x))
name_end m d k [] a x h = refl
name_end m d k (c ∷ cs) a x h =
    by_step m (at d k GroupName x) (at d k GroupName x) c (cs ++ 62 ∷ a) (name_part m d k c x (left_of _ _ h)) ∙ name_end m d k cs a x (right_of _ _ h)

ahead_read : (m : Mode) (d k c : ℕ) (x : Forms) → p.is_look c ≡ true → step m (at d k Question x) c ≡ Some (at d k Between x)
ahead_read m d k c x h = when_false (nat_eq c 60) _ _ (apart p.is_look c 60 h refl) ∙ when_true (p.is_look c) _ _ h

behind_read : (m : Mode) (d k c : ℕ) (x : Forms) → p.is_look c ≡ true → step m (at d k Angle x) c ≡ Some (at d k Between (p.with_look_behind x))
behind_read m d k c x h = when_true (p.is_look c) _ _ h

-- behind a lone `(` the next character is read as any other
paren_read : (m : Mode) (d : ℕ) (a : Text) (x : Forms) → p.no_question a ≡ true → run m a (at (d + 1) 0 Paren x) ≡ run m a (at (d + 1) 0 Between x)
paren_read m d [] x h = rw (positive d) refl
paren_read m d (c ∷ cs) x h = ap (λ r. option_and_then (run m cs) r) (when_false (nat_eq c 63) _ _ (not_true (nat_eq c 63) h))

opener_read : (m : Mode) {a b : Text} {x y : Forms} → Opener a b x y → (d : ℕ) → run m a (at d 0 Between x) ≡ run m b (at (d + 1) 0 Between y)
opener_read m (capture {a = a} {x = x} h) d = paren_read m d a x h
opener_read m plain d = refl
opener_read m (look_ahead {c = c} {a = a} {x = x} h) d = by_step m (at (d + 1) 0 Question x) (at (d + 1) 0 Between x) c a (ahead_read m (d + 1) 0 c x h)
opener_read m (look_behind {c = c} {a = a} {x = x} h) d = by_step m (at (d + 1) 0 Angle x) (at (d + 1) 0 Between (p.with_look_behind x)) c a (behind_read m (d + 1) 0 c x h)
opener_read m (named [] {a = a} {x = x} h) d = cc
opener_read m (named (c ∷ cs) {a = a} {x = x} h) d =
    by_step m (at (d + 1) 0 Angle x) (at (d + 1) 0 GroupName x) c (cs ++ 62 ∷ a) (name_start m (d + 1) 0 c x (left_of _ _ h)) ∙ name_end m (d + 1) 0 cs a x (right_of _ _ h)
opener_read m (modifiers {x = x} h) d = modifiers_read m h (d + 1) 0 x

-- Items

other_stays : (s : Scanner) (c : ℕ) → p.is_other c ≡ true → in_items s c ≡ Some (moved s Between)
other_stays s c h =
    when_false (nat_eq c 92) (Some (moved s Backslash)) _ (not_true (nat_eq c 92) (left_of _ _ (left_of _ _ (left_of _ _ h))))
    ∙ when_false (nat_eq c 91) _ _ (not_true (nat_eq c 91) (right_of _ _ (left_of _ _ (left_of _ _ h))))
    ∙ when_false (nat_eq c 40) _ _ (not_true (nat_eq c 40) (right_of _ _ (left_of _ _ h)))
    ∙ when_false (nat_eq c 41) _ _ (not_true (nat_eq c 41) (right_of _ _ h))

closes_group : (m : Mode) (d : ℕ) (x : Forms) → step m (at (d + 1) 0 Between x) 41 ≡ Some (at d 0 Between x)
closes_group m d x = when_false (nat_eq (d + 1) 0) _ _ (positive d) ∙ ap (λ n. Some (at n 0 Between x)) (less_one d)

items_read : {m : Mode} {a b : Text} {x y : Forms} → Items m a b x y → (d : ℕ) → run m a (at d 0 Between x) ≡ run m b (at d 0 Between y)
items_read no_item d = refl
items_read (item_escape e r) d = escape_read e d 0 ∙ items_read r d
items_read {m = m} (item_class {b = b} {y = y} i r) d =
    parts_read i d 0 ∙ by_step m (at d 1 Between y) (at d 0 Between y) 93 b (closes_class m d 0 y) ∙ items_read r d
items_read {m = m} (item_group {c = c} {z = z} o i r) d =
    opener_read m o d ∙ items_read i (d + 1) ∙ by_step m (at (d + 1) 0 Between z) (at d 0 Between z) 41 c (closes_group m d z) ∙ items_read r d
items_read {m = m} (item_other {c = c} {a = a} {x = x} h r) d =
    by_step m (at d 0 Between x) (at d 0 Between x) c a (other_stays (at d 0 Between x) c h) ∙ items_read r d

pub complete : (m : Mode) (text : Text) (forms : Forms) → IsPattern m text forms → scan m text ≡ Some forms
complete m text forms h = items_read h 0
