use Rattle.std.proofs.Common.{◌≡◌, ◌≤◌, ◌+◌, ◌-◌, ◌++◌, ◌∙◌, ◌∷◌, [], length, take, drop, map, get_or, ap, subst, arith, append_assoc, length-append}
use Rattle.std.proofs.lemmas.List.{length-map}
use Rattle.lang_model.specs.Limits.{script_limit}
use Rattle.run_model.specs.Inputs.{Rise}
use Rattle.relview.proofs.Rising.{next_place, some_place, both_parts, all_behind}
use Rattle.relview.proofs.batches.run_all.Goals as goal

pub split_at-requires : goal.split_at-requires
split_at-requires g c =
    let count = length c.args.scripts.now in
    let ends = c.args.ends.now in
    (next_place 0 count ends (some_place count ends c.requires.some c.requires.ends) c.requires.ends).within

pub batches-init : goal.batches-init
batches-init g c =
    let count = length c.args.scripts.now in
    let ends = c.args.ends.now in
    let next = next_place 0 count ends (some_place count ends c.requires.some c.requires.ends) c.requires.ends in
    let n = get_or ends 0 0 in
    let all = c.args.scripts.now in
    let mine = c.split_at.result.0.now in
    let left = c.split_at.result.1.now in
    let front = c.split_at.ensures.front in
    let back = c.split_at.ensures.back in
    let front_len = c.split_at.ensures.front_len in
    let back_len = c.split_at.ensures.back_len in
    let long = length-map mine (λ v. v.items) in
    let within = next.within in
    record {
      scripts = map (λ v. v.items) mine;
      places = length mine ∷ [];
      so_far = c.in_ok-so_far.ensures;
      count = omega (arith, front_len, long);
      both = both_parts (λ v. v.items) all mine left n front back;
      all = ap (λ m. m ∷ take (length ends - 1) (drop 1 ends)) front_len ∙ next.first;
      rise = subst (λ m. Rise n m (take (length ends - 1) (drop 1 ends))) (omega (arith, back_len, within)) next.rest;
      limits = all_behind (λ v. length v.items ≤ script_limit) all left n back c.requires.limits;
    }

pub split_at-requires-in-len1-up : goal.split_at-requires-in-len1-up
split_at-requires-in-len1-up g c =
    let next = next_place c.batches.done (c.batches.done + length c.batches.left.now) c.batches.rest.now c.in-len1-up.len_at_least c.batches.invariant.rise in
    let within = next.within in
    omega (arith, within)

pub go_on-requires-clause-few : goal.go_on-requires-clause-few
go_on-requires-clause-few g c κs within =
    let inv = c.batches.invariant in
    let next = next_place c.batches.done (c.batches.done + length c.batches.left.now) c.batches.rest.now c.in-len1-up.len_at_least inv.rise in
    let inside = next.within in
    let later = next.later in
    let front_len = c.split_at-in-len1-up.ensures.front_len in
    let few = c.requires.few in
    let whole = ap length inv.both in
    let long = length-append inv.scripts (map (λ v. v.items) c.batches.left.now) in
    let left = length-map c.batches.left.now (λ v. v.items) in
    let all = length-map c.args.scripts.now (λ v. v.items) in
    let count = inv.count in
    omega (arith, inside, later, front_len, few, whole, long, left, all, count)

pub batches-preserved : goal.batches-preserved
batches-preserved g c =
    let inv = c.batches.invariant in
    let rest = c.batches.rest.now in
    let next = next_place c.batches.done (c.batches.done + length c.batches.left.now) rest c.in-len1-up.len_at_least inv.rise in
    let inside = next.within in
    let later = next.later in
    let n = get_or rest 0 0 - c.batches.done in
    let left = c.batches.left.now in
    let mine = c.split_at-in-len1-up.result.0.now in
    let others = c.split_at-in-len1-up.result.1.now in
    let front_len = c.split_at-in-len1-up.ensures.front_len in
    let back_len = c.split_at-in-len1-up.ensures.back_len in
    let front = c.split_at-in-len1-up.ensures.front in
    let back = c.split_at-in-len1-up.ensures.back in
    let more = map (λ v. v.items) mine in
    let long = length-map mine (λ v. v.items) in
    let longer = length-append inv.scripts more in
    let count = inv.count in
    let behind = take (length rest - 1) (drop 1 rest) in
    let place : length inv.scripts + length more ≡ get_or rest 0 0 = omega (arith, front_len, long, count, later) in
    record {
      scripts = inv.scripts ++ more;
      places = inv.places ++ (length inv.scripts + length more) ∷ [];
      so_far = c.in_ok-so_far-2.ensures inv.scripts inv.places inv.so_far (omega (arith, count));
      count = omega (arith, place, longer);
      both = append_assoc inv.scripts more (map (λ v. v.items) others) ∙ ap (λ xs. inv.scripts ++ xs) (both_parts (λ v. v.items) left mine others n front back) ∙ inv.both;
      all = append_assoc inv.places ((length inv.scripts + length more) ∷ []) behind ∙ ap (λ m. inv.places ++ (m ∷ behind)) place ∙ ap (λ xs. inv.places ++ xs) next.first ∙ inv.all;
      rise = subst (λ m. Rise (get_or rest 0 0) m behind) (omega (arith, back_len, inside, later)) next.rest;
      limits = all_behind (λ v. length v.items ≤ script_limit) left others n back inv.limits;
    }
