-- A rule over a whole tree, from the top down. What holds round a place is a context: the node above says what
-- holds round each of its kids, and the rule asks at each node, at each list and at each absent part whether it
-- may stand there.
use Rattle.std.specs.Prelude.{ℕ, zero, suc, List, Bool, true, ◌&&◌}
use Rattle.js_term.specs.Term.{Text, Term, absent, list, node, Terms, none, more}
use Rattle.js_term.specs.declared.kind.Kind.{Kind}

-- `inside c k texts ts n` holds round the kid numbered n of such a node, and `item c` round the items of a list.
module _ {C : Type 0} (inside : C → Kind → List Text → Terms → ℕ → C) (item : C → C) (allows : C → Kind → List Text → Terms → Bool) (allows_list : C → Terms → Bool) (allows_absent : C → Bool) where
  abbrev mutual
    pub everywhere : C → Term → Bool
    everywhere c absent = allows_absent c
    everywhere c (list ts) = allows_list c ts && everywhere_each (item c) ts
    everywhere c (node k texts ts) = allows c k texts ts && everywhere_kids (inside c k texts ts) 0 ts

    pub everywhere_each : C → Terms → Bool
    everywhere_each c none = true
    everywhere_each c (more t ts) = everywhere c t && everywhere_each c ts

    -- the kids from the one numbered n on
    pub everywhere_kids : (ℕ → C) → ℕ → Terms → Bool
    everywhere_kids around n none = true
    everywhere_kids around n (more t ts) = everywhere (around n) t && everywhere_kids around (suc n) ts

-- A rule that asks at nodes alone; what holds round a list holds round its items.
module _ {C : Type 0} (inside : C → Kind → List Text → Terms → ℕ → C) (allows : C → Kind → List Text → Terms → Bool) where
  abbrev pub at_each_node : C → Term → Bool
  at_each_node = everywhere inside (λ c. c) allows (λ c ts. true) (λ c. true)

-- what holds round all kids of a node alike
abbrev pub alike : {C : Type 0} → C → ℕ → C
alike c n = c

-- what holds round the first kid, and round the others
abbrev pub first_then : {C : Type 0} → C → C → ℕ → C
first_then c d zero = c
first_then c d (suc n) = d

-- what holds round the first two kids, and round the others
abbrev pub first_two_then : {C : Type 0} → C → C → ℕ → C
first_two_then c d (suc (suc n)) = d
first_two_then c d n = c
