-- Lists with commas between.
use Rattle.std.proofs.Common.{◌≡◌, refl, sym, subst, ◌∷◌, Bool, true, false, ◌||◌}
use Rattle.std.specs.Prelude.{codes}
use Rattle.std.proofs.lemmas.Bool.{and_parts}
use Rattle.js_term.specs.Term.{Text, Term, absent, list, node, Terms, none, more}
use Rattle.js_syntax.specs.Sorts as sorts
use Rattle.js_syntax.specs.Sorts.{Place}
use Rattle.js_syntax.specs.Edges.{last_absent}
use Rattle.js_syntax.specs.Parts.{is_present}
use Rattle.js_syntax.specs.Printable.{has_shape}
use Rattle.js_syntax.specs.Tokens.{Sign}
use Rattle.js_syntax.specs.Spelling.{Sort, Item, Listed, last, and, Group, no_items, items, trailing}
use Rattle.print_layout.specs.Rows.{comma, ends_in_hole}
use Rattle.print_layout.specs.Needs.{is_held}
use Rattle.print_layout.specs.Layout.{put, wrapped, each_wrapped}
use Rattle.print_spelling.proofs.Tokens.{differ, Lead, flush, spaced, led, comma_at}
use Rattle.print_spelling.proofs.Spread.{to, each_to, separated_to}
use Rattle.print_spelling.proofs.Fits.{each_shaped}
use Rattle.print_spelling.proofs.Claims.{bare, ends, Claim, Each, Mode}

-- A hole leaves the gap before it.
abbrev pub lead_behind : Lead → Term → Lead
lead_behind g absent = g
lead_behind g t = flush

abbrev pub lead_last : Lead → Terms → Lead
lead_last g none = g
lead_last g (more t none) = lead_behind g t
lead_last g (more t ts) = lead_last spaced ts

abbrev pub ItemAt : Sort → Bool → (Term → Bool) → Term → Type 0
ItemAt s i need t = (g : Lead) (rest : Text) → ends rest false ≡ true → Item s (wrapped i need t) (led g (to i need t rest)) (led (lead_behind g t) rest)

abbrev pub AllItems : Sort → Bool → (Term → Bool) → Terms → Type 0
AllItems s i need none = Unit {0}
AllItems s i need (more t ts) = ItemAt s i need t × AllItems s i need ts

comma_behind : (g : Lead) (t : Term) (rest : Text) → Sign (codes ",") (led (lead_behind g t) (44 ∷ rest)) rest
comma_behind g t rest = comma_at (lead_behind g t)

pub listed : (s : Sort) (i : Bool) (need : Term → Bool) (t : Term) (ts : Terms) → AllItems s i need (more t ts) → (g : Lead) (rest : Text) → ends rest false ≡ true → Listed s (each_wrapped i need (more t ts)) (led g (separated_to comma (each_to i need (more t ts)) rest)) (led (lead_last g (more t ts)) rest)
listed s i need t none c g rest h = last (c.0 g rest h)
listed s i need t (more u us) c g rest h =
    let tail : Text = separated_to comma (each_to i need (more u us)) rest in
    and (c.0 g (44 ∷ 32 ∷ tail) refl) (comma_behind g t (32 ∷ tail)) (listed s i need u us c.1 spaced rest h)

-- items, each by its own
pub each_item : (s : Sort) (p : Place) (m : Mode) (i : Bool) (need : Term → Bool) → ((t : Term) → has_shape p t ≡ true → Claim m t → ItemAt s i need t) → (ts : Terms) → each_shaped p ts ≡ true → Each m ts → AllItems s i need ts
each_item s p m i need f none h c = tt
each_item s p m i need f (more t ts) h c = let both = and_parts (has_shape p t) (each_shaped p ts) h in (f t both.0 c.0, each_item s p m i need f ts both.1 c.1)

-- ---- lists without holes

abbrev pub Whole : Place → Type 0
Whole p = (t : Term) → has_shape p t ≡ true → is_present t ≡ true

pub one_whole : (s : sorts.Sort) → Whole (Place.one s)
one_whole s absent h = differ (sym h)
one_whole s (list ts) h = refl
one_whole s (node k texts ts) h = refl

lead_present : (g : Lead) (t : Term) → is_present t ≡ true → lead_behind g t ≡ flush
lead_present g absent h = differ (sym h)
lead_present g (list ts) h = refl
lead_present g (node k texts ts) h = refl

pub flush_last : (p : Place) → Whole p → (g : Lead) (t : Term) (ts : Terms) → each_shaped p (more t ts) ≡ true → lead_last g (more t ts) ≡ flush
flush_last p w g t none h = lead_present g t (w t (and_parts (has_shape p t) true h).0)
flush_last p w g t (more u us) h = flush_last p w spaced u us (and_parts (has_shape p t) _ h).1

put_present : (b i : Bool) (t : Term) → is_present (bare i t) ≡ true → is_present (put b (bare i t)) ≡ true
put_present true i t h = refl
put_present false i t h = h

pub wrapped_present : (i : Bool) (need : Term → Bool) (t : Term) → is_present t ≡ true → is_present (wrapped i need t) ≡ true
wrapped_present i need absent h = differ (sym h)
wrapped_present i need (list ts) h = refl
wrapped_present i need (node k texts ts) h = put_present (is_held i need k texts ts) (i || is_held i need k texts ts) (node k texts ts) refl

pub last_present : (p : Place) → Whole p → (i : Bool) (need : Term → Bool) (t : Term) (ts : Terms) → each_shaped p (more t ts) ≡ true → last_absent (each_wrapped i need (more t ts)) ≡ false
last_present p w i need t none h = rw (wrapped_present i need t (w t (and_parts (has_shape p t) true h).0)) refl
last_present p w i need t (more u us) h = last_present p w i need u us (and_parts (has_shape p t) _ h).1

pub whole_list : (s : Sort) (p : Place) → Whole p → (m : Mode) (i : Bool) (need : Term → Bool) → ((t : Term) → has_shape p t ≡ true → Claim m t → ItemAt s i need t) → (t : Term) (ts : Terms) → each_shaped p (more t ts) ≡ true → Each m (more t ts) → (g : Lead) (rest : Text) → ends rest false ≡ true → Listed s (each_wrapped i need (more t ts)) (led g (separated_to comma (each_to i need (more t ts)) rest)) rest
whole_list s p w m i need f t ts h c g rest e =
    subst (λ l. Listed s (each_wrapped i need (more t ts)) (led g (separated_to comma (each_to i need (more t ts)) rest)) (led l rest)) (flush_last p w g t ts h)
    (listed s i need t ts (each_item s p m i need f (more t ts) h c) g rest e)

-- whether the list is empty or not
pub whole_group : (s : Sort) (p : Place) → Whole p → (m : Mode) (i : Bool) (need : Term → Bool) → ((t : Term) → has_shape p t ≡ true → Claim m t → ItemAt s i need t) → (ts : Terms) → each_shaped p ts ≡ true → Each m ts → (rest : Text) → ends rest false ≡ true → Group s (each_wrapped i need ts) (separated_to comma (each_to i need ts) rest) rest
whole_group s p w m i need f none h c rest e = no_items
whole_group s p w m i need f (more t ts) h c rest e = items (last_present p w i need t ts h) (whole_list s p w m i need f t ts h c flush rest e)

-- ---- lists with holes

last_full : (p : Place) (i : Bool) (need : Term → Bool) (g : Lead) (t : Term) (ts : Terms) → ends_in_hole (more t ts) ≡ false → (lead_last g (more t ts) ≡ flush) × (last_absent (each_wrapped i need (more t ts)) ≡ false)
last_full p i need g absent none e = differ e
last_full p i need g (list us) none e = (refl, refl)
last_full p i need g (node k texts us) none e = (refl, rw (wrapped_present i need (node k texts us) refl) refl)
last_full p i need g t (more u us) e = last_full p i need spaced u us e

-- the group, and the comma behind a last hole
abbrev pub closing : Bool → Text → Text
closing true rest = 44 ∷ rest
closing false rest = rest

pub holed_group : (s : Sort) (p : Place) (m : Mode) (i : Bool) (need : Term → Bool) → ((t : Term) → has_shape p t ≡ true → Claim m t → ItemAt s i need t) → (ts : Terms) → each_shaped p ts ≡ true → Each m ts → (rest : Text) → ends rest false ≡ true → (b : Bool) → ends_in_hole ts ≡ b → Group s (each_wrapped i need ts) (separated_to comma (each_to i need ts) (closing b rest)) rest
holed_group s p m i need f none h c rest e true z = differ (sym z)
holed_group s p m i need f none h c rest e false z = no_items
holed_group s p m i need f (more t ts) h c rest e true z = trailing (listed s i need t ts (each_item s p m i need f (more t ts) h c) flush (44 ∷ rest) refl) (comma_at (lead_last flush (more t ts)))
holed_group s p m i need f (more t ts) h c rest e false z =
    let full = last_full p i need flush t ts z in
    items full.1
    (subst (λ l. Listed s (each_wrapped i need (more t ts)) (separated_to comma (each_to i need (more t ts)) rest) (led l rest)) full.0
    (listed s i need t ts (each_item s p m i need f (more t ts) h c) flush rest e))
