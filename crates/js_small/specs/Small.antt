-- Form and names in one recursion, in the order in which the walk tests them.
use Rattle.std.specs.Prelude.{List, [], ◌∷◌, option_map, map, Bool, true, ◌&&◌, codes}
use Rattle.js_term.specs.Term.{Text, Term, absent, list, node, Terms, none, more, all, maybe, flag}
use Rattle.js_term.specs.declared.kind.Kind.{Kind}
use Rattle.js_term.specs.Scope.{role}
use Rattle.js_term.specs.Form.{Sort, Place, one, empty, takes_absent, takes_list, item_place, first_place, later_places, no_places, no_texts, takes_kind, stands_small, allows, places, is_small_name, is_small_binding, is_distinct_inside}
use Rattle.small_tree.specs.TermOf.{function_word, binding_term, parameter_term, directive_term, hashbang_texts}
use Rattle.small_tree.specs.declared.function.Function.{Function}
use Rattle.small_tree.specs.declared.module.Program.{Program}

abbrev pub allowed : Kind → List Text → Bool
allowed = allows is_small_name is_small_binding

-- whether a term has the form that a place asks for, and no function in it declares a name twice
abbrev mutual
  pub small_at : Place → Term → Bool
  small_at p absent = takes_absent p
  small_at p (list ts) = takes_list p ts && small_each (item_place p) ts
  small_at p (node k texts ts) = takes_kind stands_small allowed places p k && (allowed k texts && (small_places (places k texts) ts && is_distinct_inside (role k) ts))

  pub small_each : Place → Terms → Bool
  small_each p none = true
  small_each p (more t ts) = small_at p t && small_each p ts

  pub small_places : List Place → Terms → Bool
  small_places ps none = no_places ps
  small_places ps (more t ts) = small_at (first_place ps) t && small_places (later_places ps) ts

-- what a function declaration is beside its statements and its names
abbrev pub small_head : Function → Bool
small_head n = stands_small Sort.declaration (function_word n.kind) && (allowed (function_word n.kind) (flag n.is_async (codes "async") ∷ flag n.is_generator (codes "*") ∷ []) && (small_at (one Sort.binding) (maybe (option_map binding_term n.id)) && (small_each (one Sort.parameter) (all (map parameter_term n.params.items)) && takes_list empty (all (map directive_term n.body.directives)))))

-- what a module is beside its statements and its names
abbrev pub small_front : Program → Bool
small_front n = no_texts (hashbang_texts n.hashbang) && takes_list empty (all (map directive_term n.directives))
