-- What the scanner takes is a pattern, and the forms are those that occur.
use Rattle.std.proofs.Common.{◌≡◌, ℕ, zero, suc, ◌+◌, ◌-◌, [], ◌∷◌, ◌++◌, Option, Some, None, Bool, true, false, not, ◌&&◌, if◌then◌else◌, nat_eq, refl, ap, sym, subst, ◌∙◌, add-one}
use Rattle.std.proofs.lemmas.Bool.{eqb-true}
use Rattle.std.proofs.Math.Dec.{eqb-suc-zero}
use Rattle.std.specs.Option.{option_and_then}
use Rattle.std.specs.List.{list_all}
use Rattle.js_chars.specs.Names.{is_identifier_start, is_identifier_part}
use Rattle.js_pattern.specs.Patterns as p
use Rattle.js_pattern.specs.Patterns.{Text, Escape, character, property, Parts, no_part, part_escape, part_class, part_member, Modifiers, letters_on, letters_off, Opener, capture, plain, look_ahead, look_behind, named, modifiers, Items, no_item, item_escape, item_class, item_group, item_other, IsPattern}
use Rattle.js_pattern.specs.Scan.{run, step_at, scan, start, finish, in_class, in_items, in_modifiers, between}
use Rattle.js_pattern.specs.declared.pattern.Forms.{Forms}
use Rattle.js_pattern.specs.declared.pattern.Mode.{Mode}
use Rattle.js_pattern.specs.declared.scanner.Scanner.{Scanner}
use Rattle.js_pattern.specs.declared.scanner.Place.{Place}
use Rattle.js_pattern.proofs.Choices.{both, all_false, none_of, left_of, right_of, suc_less_one}
use Rattle.js_pattern.specs.declared.scanner.Place.TheVariants.{Between, Backslash, Property, PropertyBrace, PropertyName, Paren, Question, Letters, LettersOff, Angle, GroupName}

abbrev at : ℕ → ℕ → Place → Forms → Scanner
at d k place x = record { groups = d; classes = k; place = place; forms = x }

-- Forms of a part of the text, and of what is behind it

-- something stands at the front of a text, and `last` holds of the rest
record Ahead (First : Text → Text → Forms → Forms → Type 0) (Last : Text → Forms → Forms → Type 0) (a : Text) (x z : Forms) : Type 0 where
  rest : Text
  middle : Forms
  first : First a rest x middle
  last : Last rest middle z

-- the same, with a character between the two
record Until (First : Text → Text → Forms → Forms → Type 0) (end : ℕ) (Last : Text → Forms → Forms → Type 0) (a : Text) (x z : Forms) : Type 0 where
  rest : Text
  middle : Forms
  first : First a (end ∷ rest) x middle
  last : Last rest middle z

-- a word, and a character that ends it
record Word (test : Text → Bool) (end : ℕ) (Last : Text → Type 0) (a : Text) : Type 0 where
  word : Text
  rest : Text
  is : a ≡ word ++ end ∷ rest
  good : test word ≡ true
  last : Last rest

-- d open groups are closed in the text, and nothing is left
abbrev Closes : Mode → ℕ → Text → Forms → Forms → Type 0
Closes m zero a x z = Items m a [] x z
Closes m (suc d) a x z = Until (Items m) 41 (Closes m d) a x z

-- k open classes, then d open groups
abbrev Open : Mode → ℕ → ℕ → Text → Forms → Forms → Type 0
Open m d zero a x z = Closes m d a x z
Open m d (suc k) a x z = Until (Parts m) 93 (Open m d k) a x z

-- what the text has to be behind what has been begun
abbrev Rest : Mode → Place → ℕ → ℕ → Text → Forms → Forms → Type 0
Rest m Between d k a x z = Open m d k a x z
Rest m Backslash d k a x z = Ahead (λ b. Escape m (92 ∷ b)) (Open m d k) a x z
Rest m Property d k a x z = (b : Text) × (a ≡ 123 ∷ b) × Word p.is_property_name 125 (λ r. Open m d k r (p.with_property_escape x) z) b
Rest m PropertyBrace d k a x z = Word p.is_property_name 125 (λ r. Open m d k r (p.with_property_escape x) z) a
Rest m PropertyName d k a x z = Word (list_all p.is_property_part) 125 (λ r. Open m d k r (p.with_property_escape x) z) a
Rest m Paren d k a x z = Ahead (λ b. Opener (40 ∷ b)) (Open m d k) a x z
Rest m Question d k a x z = Ahead (λ b. Opener (40 ∷ 63 ∷ b)) (Open m d k) a x z
Rest m Letters d k a x z = (b : Text) × Modifiers a b × Open m d k b x z
Rest m LettersOff d k a x z = Word (list_all p.is_modifier) 58 (λ r. Open m d k r x z) a
Rest m Angle d k a x z = Ahead (λ b. Opener (40 ∷ 63 ∷ 60 ∷ b)) (Open m d k) a x z
Rest m GroupName d k a x z = Word (list_all is_identifier_part) 62 (λ r. Open m d k r (p.with_named_group x) z) a

-- Something more at the front

more_items : (m : Mode) (d : ℕ) (a b : Text) (x y z : Forms) → ((c : Text) (w : Forms) → Items m b c y w → Items m a c x w) → Closes m d b y z → Closes m d a x z
more_items m zero a b x y z more r = more [] z r
more_items m (suc d) a b x y z more r = record { rest = r.rest; middle = r.middle; first = more (41 ∷ r.rest) r.middle r.first; last = r.last }

more_escape : (m : Mode) (d k : ℕ) (a b : Text) (x y z : Forms) → Escape m a b x y → Open m d k b y z → Open m d k a x z
more_escape m d zero a b x y z e r = more_items m d a b x y z (λ c w. item_escape e) r
more_escape m d (suc k) a b x y z e r = record { rest = r.rest; middle = r.middle; first = part_escape e r.first; last = r.last }

more_character : (m : Mode) (d c : ℕ) (a : Text) (x z : Forms) → p.is_other c ≡ true → Closes m d a x z → Closes m d (c ∷ a) x z
more_character m d c a x z h r = more_items m d (c ∷ a) a x x z (λ b w. item_other h) r

more_member : (m : Mode) (d k c : ℕ) (a : Text) (x z : Forms) → p.is_member m c ≡ true → Open m d (suc k) a x z → Open m d (suc k) (c ∷ a) x z
more_member m d k c a x z h r = record { rest = r.rest; middle = r.middle; first = part_member h r.first; last = r.last }

inner_class : (m : Mode) (d k : ℕ) (a : Text) (x z : Forms) → m.nests ≡ true → Open m d (suc (suc k)) a x z → Open m d (suc k) (91 ∷ a) x z
inner_class m d k a x z n r = record { rest = r.last.rest; middle = r.last.middle; first = part_class n r.first r.last.first; last = r.last.last }

outer_class : (m : Mode) (d : ℕ) (a : Text) (x z : Forms) → Open m d 1 a x z → Closes m d (91 ∷ a) x z
outer_class m d a x z r = more_items m d (91 ∷ a) r.rest x r.middle z (λ c w. item_class r.first) r.last

class_ends : (m : Mode) (d k : ℕ) (a : Text) (x z : Forms) → Open m d k a x z → Open m d (suc k) (93 ∷ a) x z
class_ends m d k a x z r = record { rest = a; middle = x; first = no_part; last = r }

group_ends : (m : Mode) (d : ℕ) (a : Text) (x z : Forms) → Closes m d a x z → Closes m (suc d) (41 ∷ a) x z
group_ends m d a x z r = record { rest = a; middle = x; first = no_item; last = r }

whole_group : (m : Mode) (d : ℕ) (a b : Text) (x y z : Forms) → Opener a b x y → Closes m (suc d) b y z → Closes m d a x z
whole_group m d a b x y z o r = more_items m d a r.rest x r.middle z (λ c w. item_group o r.first) r.last

more_letter : (c : ℕ) {a b : Text} → p.is_modifier c ≡ true → Modifiers a b → Modifiers (c ∷ a) b
more_letter c h (letters_on on g) = letters_on (c ∷ on) (both h g)
more_letter c h (letters_off on off g f) = letters_off (c ∷ on) off (both h g) f

-- A word at the front

more_word : {test longer : Text → Bool} {end : ℕ} {Last : Text → Type 0} {a : Text} (c : ℕ) → ((w : Text) → test w ≡ true → longer (c ∷ w) ≡ true) → Word test end Last a → Word longer end Last (c ∷ a)
more_word c h w = record { word = c ∷ w.word; rest = w.rest; is = ap (λ t. c ∷ t) w.is; good = h w.word w.good; last = w.last }

word_ends : (test : Text → Bool) (Last : Text → Type 0) (c end : ℕ) (a : Text) → test [] ≡ true → nat_eq c end ≡ true → Last a → Word test end Last (c ∷ a)
word_ends test Last c end a h is r = record { word = []; rest = a; is = ap (λ n. n ∷ a) (eqb-true c end is); good = h; last = r }

-- Tests in the scanner's answer

branch : {P A : Type 0} {z : Forms} (b : Bool) (r q : A) (f : A → Option Forms) → f (if b then r else q) ≡ Some z →
    (b ≡ true → f r ≡ Some z → P) → (b ≡ false → f q ≡ Some z → P) → P
branch true r q f h when unless = when refl h
branch false r q f h when unless = unless refl h

impossible : {P : Type 0} {z : Forms} → None ≡ Some z → P
impossible h = cc

same_forms : {x z : Forms} → Some x ≡ Some z → x ≡ z
same_forms h = cc

suc_not_zero : {P : Type 0} (n : ℕ) → nat_eq (suc n) 0 ≡ true → P
suc_not_zero n h = let other = eqb-suc-zero n in cc

-- a fact on a text that begins with this character, where the test said that it is this one
begins_with : (P : Text → Type 0) (c d : ℕ) (a : Text) → nat_eq c d ≡ true → P (d ∷ a) → P (c ∷ a)
begins_with P c d a h r = subst (λ n. P (n ∷ a)) (sym (eqb-true c d h)) r

-- The last character

at_end : (m : Mode) (z : Forms) (q : Place) (d k : ℕ) (x : Forms) → finish (at d k q x) ≡ Some z → Rest m q d k [] x z
at_end m z Between d k x h =
    branch (nat_eq d 0 && nat_eq k 0) (Some x) None (λ o. o) h
    (λ is r. subst (λ n. Open m n k [] x z) (sym (eqb-true d 0 (left_of _ _ is)))
    (subst (λ n. Open m 0 n [] x z) (sym (eqb-true k 0 (right_of _ _ is)))
    (subst (λ y. Items m [] [] x y) (same_forms r) no_item)))
    (λ is r. impossible r)
at_end m z Backslash d k x h = impossible h
at_end m z Property d k x h = impossible h
at_end m z PropertyBrace d k x h = impossible h
at_end m z PropertyName d k x h = impossible h
at_end m z Paren d k x h = impossible h
at_end m z Question d k x h = impossible h
at_end m z Letters d k x h = impossible h
at_end m z LettersOff d k x h = impossible h
at_end m z Angle d k x h = impossible h
at_end m z GroupName d k x h = impossible h

-- One character, where it is known what the others have to be

module _ (m : Mode) (z : Forms) (cs : Text) (known : (s : Scanner) → run m cs s ≡ Some z → Rest m s.place s.groups s.classes cs s.forms z) where
  abbrev go : Option Scanner → Option Forms
  go r = option_and_then (run m cs) r

  closing : (d : ℕ) (x : Forms) → go (if nat_eq d 0 then None else Some (at (d - 1) 0 Between x)) ≡ Some z → Closes m d (41 ∷ cs) x z
  closing zero x h = impossible h
  closing (suc d) x h =
      branch (nat_eq (suc d) 0) None (Some (at (suc d - 1) 0 Between x)) go h
      (λ is r. impossible r)
      (λ is r. group_ends m d cs x z (subst (λ n. Closes m n cs x z) (suc_less_one d) (known (at (suc d - 1) 0 Between x) r)))

  item : (q : Place) (d c : ℕ) (x : Forms) → go (in_items (at d 0 q x) c) ≡ Some z → Closes m d (c ∷ cs) x z
  item q d c x h =
      branch (nat_eq c 92) _ _ go h
      (λ is r. begins_with (λ t. Closes m d t x z) c 92 cs is (let e = known (at d 0 Backslash x) r in more_escape m d 0 (92 ∷ cs) e.rest x e.middle z e.first e.last))
      (λ not_92 h91. branch (nat_eq c 91) _ _ go h91
      (λ is r. begins_with (λ t. Closes m d t x z) c 91 cs is (outer_class m d cs x z (known (at d 1 Between x) r)))
      (λ not_91 h40. branch (nat_eq c 40) _ _ go h40
      (λ is r. begins_with (λ t. Closes m d t x z) c 40 cs is (opens d x (known (at (d + 1) 0 Paren x) r)))
      (λ not_40 h41. branch (nat_eq c 41) _ _ go h41
      (λ is r. begins_with (λ t. Closes m d t x z) c 41 cs is (closing d x r))
      (λ not_41 r. more_character m d c cs x z (all_false (nat_eq c 92) (nat_eq c 91) (nat_eq c 40) (nat_eq c 41) not_92 not_91 not_40 not_41) (known (at d 0 Between x) r)))))
    where
      opens : (d : ℕ) (x : Forms) → Rest m Paren (d + 1) 0 cs x z → Closes m d (40 ∷ cs) x z
      opens d x o = whole_group m d (40 ∷ cs) o.rest x o.middle z o.first (subst (λ n. Closes m n o.rest o.middle z) (add-one d) o.last)

  part : (q : Place) (d k c : ℕ) (x : Forms) → run m cs (in_class m (at d (suc k) q x) c) ≡ Some z → Open m d (suc k) (c ∷ cs) x z
  part q d k c x h =
      branch (nat_eq c 92) _ _ (run m cs) h
      (λ is r. begins_with (λ t. Open m d (suc k) t x z) c 92 cs is (let e = known (at d (suc k) Backslash x) r in more_escape m d (suc k) (92 ∷ cs) e.rest x e.middle z e.first e.last))
      (λ not_92 h91. branch (m.nests && nat_eq c 91) _ _ (run m cs) h91
      (λ is r. begins_with (λ t. Open m d (suc k) t x z) c 91 cs (right_of _ _ is)
      (inner_class m d k cs x z (left_of _ _ is) (subst (λ n. Open m d n cs x z) (add-one (suc k)) (known (at d (suc k + 1) Between x) r))))
      (λ not_91 h93. branch (nat_eq c 93) _ _ (run m cs) h93
      (λ is r. begins_with (λ t. Open m d (suc k) t x z) c 93 cs is
      (class_ends m d k cs x z (subst (λ n. Open m d n cs x z) (suc_less_one k) (known (at d (suc k - 1) Between x) r))))
      (λ not_93 r. more_member m d k c cs x z (none_of (nat_eq c 92) (nat_eq c 93) (m.nests && nat_eq c 91) not_92 not_93 not_91) (known (at d (suc k) Between x) r))))

  either_kind : (q : Place) (d k c : ℕ) (x : Forms) → go (between m (at d k q x) c) ≡ Some z → Open m d k (c ∷ cs) x z
  either_kind q d zero c x h = item q d c x h
  either_kind q d (suc k) c x h =
      branch (nat_eq (suc k) 0) _ _ go h (λ is r. suc_not_zero k is) (λ is r. part q d k c x r)

  letters : (q : Place) (d k c : ℕ) (x : Forms) → go (in_modifiers (at d k q x) c) ≡ Some z → Rest m Letters d k (c ∷ cs) x z
  letters q d k c x h =
      branch (nat_eq c 45) _ _ go h
      (λ is r. begins_with (λ t. Rest m Letters d k t x z) c 45 cs is
      (let w = known (at d k LettersOff x) r in (w.rest, subst (λ u. Modifiers (45 ∷ u) w.rest) (sym w.is) (letters_off [] w.word refl w.good), w.last)))
      (λ other h2. branch (p.is_modifier c) _ _ go h2
      (λ is r. let t = known (at d k Letters x) r in (t.0, more_letter c is t.1, t.2))
      (λ not_letter h3. branch (nat_eq c 58) _ _ go h3
      (λ is r. begins_with (λ t. Rest m Letters d k t x z) c 58 cs is (cs, letters_on [] refl, known (at d k Between x) r))
      (λ not_58 r. impossible r)))

  escape : (d k c : ℕ) (x : Forms) → go (step_at Backslash m (at d k Backslash x) c) ≡ Some z → Rest m Backslash d k (c ∷ cs) x z
  escape d k c x h =
      branch (m.unicode && p.is_p c) _ _ (run m cs) h
      (λ is r. let t = known (at d k Property x) r in let w = t.2 in
      let text_is : cs ≡ 123 ∷ (w.word ++ 125 ∷ w.rest) = t.1 ∙ ap (λ u. 123 ∷ u) w.is in
      record {
        rest = w.rest;
        middle = p.with_property_escape x;
        first = subst (λ u. Escape m (92 ∷ c ∷ u) w.rest x (p.with_property_escape x)) (sym text_is) (property w.word is w.good);
        last = w.last;
      })
      (λ is r. record { rest = cs; middle = x; first = character is; last = known (at d k Between x) r })

  angle : (d k c : ℕ) (x : Forms) → go (step_at Angle m (at d k Angle x) c) ≡ Some z → Rest m Angle d k (c ∷ cs) x z
  angle d k c x h =
      branch (p.is_look c) _ _ go h
      (λ is r. record { rest = cs; middle = p.with_look_behind x; first = look_behind is; last = known (at d k Between (p.with_look_behind x)) r })
      (λ other h2. branch (is_identifier_start c) _ _ go h2
      (λ is r. let w = known (at d k GroupName x) r in record {
        rest = w.rest;
        middle = p.with_named_group x;
        first = subst (λ u. Opener (40 ∷ 63 ∷ 60 ∷ c ∷ u) w.rest x (p.with_named_group x)) (sym w.is) (named (c ∷ w.word) (both is w.good));
        last = w.last;
      })
      (λ none r. impossible r))

  question : (d k c : ℕ) (x : Forms) → go (step_at Question m (at d k Question x) c) ≡ Some z → Rest m Question d k (c ∷ cs) x z
  question d k c x h =
      branch (nat_eq c 60) _ _ go h
      (λ is r. begins_with (λ t. Rest m Question d k t x z) c 60 cs is
      (let o = known (at d k Angle x) r in record { rest = o.rest; middle = o.middle; first = o.first; last = o.last }))
      (λ other h2. branch (p.is_look c) _ _ go h2
      (λ is r. record { rest = cs; middle = x; first = look_ahead is; last = known (at d k Between x) r })
      (λ no_look h3. let t = letters Question d k c x h3 in record { rest = t.0; middle = x; first = modifiers t.1; last = t.2 }))

  paren : (d k c : ℕ) (x : Forms) → go (step_at Paren m (at d k Paren x) c) ≡ Some z → Rest m Paren d k (c ∷ cs) x z
  paren d k c x h =
      branch (nat_eq c 63) _ _ go h
      (λ is r. begins_with (λ t. Rest m Paren d k t x z) c 63 cs is
      (let o = known (at d k Question x) r in record { rest = o.rest; middle = o.middle; first = o.first; last = o.last }))
      (λ is h2. record { rest = c ∷ cs; middle = x; first = capture (ap not is); last = either_kind Paren d k c x h2 })

  one : (q : Place) (d k c : ℕ) (x : Forms) → go (step_at q m (at d k q x) c) ≡ Some z → Rest m q d k (c ∷ cs) x z
  one Between d k c x h = either_kind Between d k c x h
  one Backslash d k c x h = escape d k c x h
  one Property d k c x h =
      branch (nat_eq c 123) _ _ go h
      (λ is r. (cs, ap (λ n. n ∷ cs) (eqb-true c 123 is), known (at d k PropertyBrace x) r))
      (λ is r. impossible r)
  one PropertyBrace d k c x h =
      branch (p.is_property_part c) _ _ go h
      (λ is r. more_word c (λ w good. both is good) (known (at d k PropertyName x) r))
      (λ is r. impossible r)
  one PropertyName d k c x h =
      branch (p.is_property_part c) _ _ go h
      (λ is r. more_word c (λ w good. both is good) (known (at d k PropertyName x) r))
      (λ other h2. branch (nat_eq c 125) _ _ go h2
      (λ is r. word_ends (list_all p.is_property_part) _ c 125 cs refl is (known (at d k Between (p.with_property_escape x)) r))
      (λ is r. impossible r))
  one Paren d k c x h = paren d k c x h
  one Question d k c x h = question d k c x h
  one Letters d k c x h = letters Letters d k c x h
  one LettersOff d k c x h =
      branch (p.is_modifier c) _ _ go h
      (λ is r. more_word c (λ w good. both is good) (known (at d k LettersOff x) r))
      (λ other h2. branch (nat_eq c 58) _ _ go h2
      (λ is r. word_ends (list_all p.is_modifier) _ c 58 cs refl is (known (at d k Between x) r))
      (λ is r. impossible r))
  one Angle d k c x h = angle d k c x h
  one GroupName d k c x h =
      branch (nat_eq c 62) _ _ go h
      (λ is r. word_ends (list_all is_identifier_part) _ c 62 cs refl is (known (at d k Between (p.with_named_group x)) r))
      (λ other h2. branch (is_identifier_part c) _ _ go h2
      (λ is r. more_word c (λ w good. both is good) (known (at d k GroupName x) r))
      (λ is r. impossible r))

taken : (m : Mode) (z : Forms) (text : Text) (s : Scanner) → run m text s ≡ Some z → Rest m s.place s.groups s.classes text s.forms z
taken m z [] s h = at_end m z s.place s.groups s.classes s.forms h
taken m z (c ∷ cs) s h = one m z cs (taken m z cs) s.place s.groups s.classes c s.forms h

pub sound : (m : Mode) (text : Text) (forms : Forms) → scan m text ≡ Some forms → IsPattern m text forms
sound m text forms h = taken m forms text start h
