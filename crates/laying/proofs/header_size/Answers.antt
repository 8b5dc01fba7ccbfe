-- `laying::header_size` meets its contract.
use Rattle.laying.proofs.Sizes.{header_size_lem}
use Rattle.laying.proofs.Whole.{time_most}
use mathlib.Core.Path.{refl}
use native.Mathlib.Omega.{arith}
use Rattle.laying.proofs.header_size.Goals as goal

-- a pair with the names of the clauses
named : {A B : Type 0} → A × B → record { size : A; small : B }
named p = record { size = p.0; small = p.1 }

pub overflow_add-flags : goal.overflow_add-flags
overflow_add-flags c =
    let r = c.requires in let l = r.numbers.limited in
    omega (arith, l.has_source, l.has_destination, l.has_name, l.has_domain, l.has_authentication)

pub overflow_add-flags-2 : goal.overflow_add-flags-2
overflow_add-flags-2 c =
    let r = c.requires in let l = r.numbers.limited in
    omega (arith, l.has_source, l.has_destination, l.has_name, l.has_domain, l.has_authentication)

pub overflow_add-flags-3 : goal.overflow_add-flags-3
overflow_add-flags-3 c =
    let r = c.requires in let l = r.numbers.limited in
    omega (arith, l.has_source, l.has_destination, l.has_name, l.has_domain, l.has_authentication)

pub overflow_add-flags-4 : goal.overflow_add-flags-4
overflow_add-flags-4 c =
    let r = c.requires in let l = r.numbers.limited in
    omega (arith, l.has_source, l.has_destination, l.has_name, l.has_domain, l.has_authentication)

pub priority_size-priority-requires : goal.priority_size-priority-requires
priority_size-priority-requires c =
    let r = c.requires in record { profile_value = r.numbers.profile; x_bound = r.numbers.limited.priority }

pub overflow_add-result : goal.overflow_add-result
overflow_add-result c =
    let r = c.requires in let l = r.numbers.limited in
    omega (
      arith,
      l.has_source,
      l.has_destination,
      l.has_name,
      l.has_domain,
      l.has_authentication,
      c.priority_size-priority.ensures.small,
      time_most r,
      r.texts.name.most,
      r.texts.domain.most,
      r.texts.parts,
      r.texts.authentication.most,
    )

pub overflow_add-result-2 : goal.overflow_add-result-2
overflow_add-result-2 c =
    let r = c.requires in let l = r.numbers.limited in
    omega (
      arith,
      l.has_source,
      l.has_destination,
      l.has_name,
      l.has_domain,
      l.has_authentication,
      c.priority_size-priority.ensures.small,
      time_most r,
      r.texts.name.most,
      r.texts.domain.most,
      r.texts.parts,
      r.texts.authentication.most,
    )

pub overflow_add-result-3 : goal.overflow_add-result-3
overflow_add-result-3 c =
    let r = c.requires in let l = r.numbers.limited in
    omega (
      arith,
      l.has_source,
      l.has_destination,
      l.has_name,
      l.has_domain,
      l.has_authentication,
      c.priority_size-priority.ensures.small,
      time_most r,
      r.texts.name.most,
      r.texts.domain.most,
      r.texts.parts,
      r.texts.authentication.most,
    )

pub overflow_add-result-4 : goal.overflow_add-result-4
overflow_add-result-4 c =
    let r = c.requires in let l = r.numbers.limited in
    omega (
      arith,
      l.has_source,
      l.has_destination,
      l.has_name,
      l.has_domain,
      l.has_authentication,
      c.priority_size-priority.ensures.small,
      time_most r,
      r.texts.name.most,
      r.texts.domain.most,
      r.texts.parts,
      r.texts.authentication.most,
    )

pub overflow_add-result-5 : goal.overflow_add-result-5
overflow_add-result-5 c =
    let r = c.requires in let l = r.numbers.limited in
    omega (
      arith,
      l.has_source,
      l.has_destination,
      l.has_name,
      l.has_domain,
      l.has_authentication,
      c.priority_size-priority.ensures.small,
      time_most r,
      r.texts.name.most,
      r.texts.domain.most,
      r.texts.parts,
      r.texts.authentication.most,
    )

pub overflow_add-result-6 : goal.overflow_add-result-6
overflow_add-result-6 c =
    let r = c.requires in let l = r.numbers.limited in
    omega (
      arith,
      l.has_source,
      l.has_destination,
      l.has_name,
      l.has_domain,
      l.has_authentication,
      c.priority_size-priority.ensures.small,
      time_most r,
      r.texts.name.most,
      r.texts.domain.most,
      r.texts.parts,
      r.texts.authentication.most,
    )

pub overflow_add-result-7 : goal.overflow_add-result-7
overflow_add-result-7 c =
    let r = c.requires in let l = r.numbers.limited in
    omega (
      arith,
      l.has_source,
      l.has_destination,
      l.has_name,
      l.has_domain,
      l.has_authentication,
      c.priority_size-priority.ensures.small,
      time_most r,
      r.texts.name.most,
      r.texts.domain.most,
      r.texts.parts,
      r.texts.authentication.most,
    )

pub returns : goal.returns
returns c =
    let r = c.requires in let l = r.numbers.limited in named ((
      header_size_lem r c.priority_size-priority.ensures.size refl,
      omega (
        arith,
        l.has_source,
        l.has_destination,
        l.has_name,
        l.has_domain,
        l.has_authentication,
        c.priority_size-priority.ensures.small,
        time_most r,
        r.texts.name.most,
        r.texts.domain.most,
        r.texts.parts,
        r.texts.authentication.most,
      ),
    ))
