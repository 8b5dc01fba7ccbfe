-- `packet::read_texts` meets its contract: its steps are the definition's.
use Rattle.std.proofs.lemmas.Result.{err_from_is_err_and}
use Rattle.fields.specs.Fields.{nowhere, blob, text}
use Rattle.fields.specs.Inner.{domain_step}
use Rattle.packet.proofs.Chain.{opted, then_went, then_stopped}
use Rattle.packet.proofs.Texting.{no_domain, timestamp_at, zone_step, name_step, parts_step, id_step, texts_whole}
use Rattle.packet.proofs.Texting.{timestamp_refused, zone_refused, name_refused, parts_refused, id_refused}
use Rattle.packet.proofs.read_texts.Goals as goal

pub returns-in_err-timestamp : goal.returns-in_err-timestamp
returns-in_err-timestamp c =
    let h = timestamp_refused c.args.has c.args.reader.now (opted timestamp_at c.args.has.timestamp nowhere _ _ _ _ _ (λ s l k. k) c.in_err-timestamp.ensures.present c.in_err-timestamp.ensures.absent) in
    let p = err_from_is_err_and c.from_residual.result c.from_residual.ensures.1 in rw (p.1, p.2) h

pub returns-in_err-zone : goal.returns-in_err-zone
returns-in_err-zone c =
    let t = opted timestamp_at c.args.has.timestamp nowhere _ _ _ _ _ (λ s l k. k) c.in_ok-timestamp.ensures.present c.in_ok-timestamp.ensures.absent in
    let h = zone_refused c.args.has c.args.reader.now (then_stopped (zone_step c.args.has) t (opted text c.args.has.zone nowhere _ _ _ _ _ (λ s l k. k) c.in_err-zone.ensures.present c.in_err-zone.ensures.absent)) in
    let p = err_from_is_err_and c.from_residual-in_err-zone.result c.from_residual-in_err-zone.ensures.1 in rw (p.1, p.2) h

pub returns-in_err-session_name : goal.returns-in_err-session_name
returns-in_err-session_name c =
    let t = opted timestamp_at c.args.has.timestamp nowhere _ _ _ _ _ (λ s l k. k) c.in_ok-timestamp.ensures.present c.in_ok-timestamp.ensures.absent in
    let z = then_went (zone_step c.args.has) t (opted text c.args.has.zone nowhere _ _ _ _ _ (λ s l k. k) c.in_ok-zone.ensures.present c.in_ok-zone.ensures.absent) in
    let h = name_refused c.args.has c.args.reader.now (then_stopped (name_step c.args.has) z (opted text c.args.has.session_name nowhere _ _ _ _ _ (λ s l k. k) c.in_err-session_name.ensures.present c.in_err-session_name.ensures.absent)) in
    let p = err_from_is_err_and c.from_residual-in_err-session_name.result c.from_residual-in_err-session_name.ensures.1 in rw (p.1, p.2) h

pub returns-in_err-count : goal.returns-in_err-count
returns-in_err-count c =
    let t = opted timestamp_at c.args.has.timestamp nowhere _ _ _ _ _ (λ s l k. k) c.in_ok-timestamp.ensures.present c.in_ok-timestamp.ensures.absent in
    let z = then_went (zone_step c.args.has) t (opted text c.args.has.zone nowhere _ _ _ _ _ (λ s l k. k) c.in_ok-zone.ensures.present c.in_ok-zone.ensures.absent) in
    let n = then_went (name_step c.args.has) z (opted text c.args.has.session_name nowhere _ _ _ _ _ (λ s l k. k) c.in_ok-session_name.ensures.present c.in_ok-session_name.ensures.absent) in
    let h = parts_refused c.args.has c.args.reader.now (then_stopped (parts_step c.args.has) n (opted domain_step c.args.has.domain no_domain _ _ _ _ _ (λ s l k. k) c.in_err-count.ensures.present c.in_err-count.ensures.absent)) in
    let p = err_from_is_err_and c.from_residual-in_err-count.result c.from_residual-in_err-count.ensures.1 in rw (p.1, p.2) h

pub returns-in_err-authentication : goal.returns-in_err-authentication
returns-in_err-authentication c =
    let t = opted timestamp_at c.args.has.timestamp nowhere _ _ _ _ _ (λ s l k. k) c.in_ok-timestamp.ensures.present c.in_ok-timestamp.ensures.absent in
    let z = then_went (zone_step c.args.has) t (opted text c.args.has.zone nowhere _ _ _ _ _ (λ s l k. k) c.in_ok-zone.ensures.present c.in_ok-zone.ensures.absent) in
    let n = then_went (name_step c.args.has) z (opted text c.args.has.session_name nowhere _ _ _ _ _ (λ s l k. k) c.in_ok-session_name.ensures.present c.in_ok-session_name.ensures.absent) in
    let d = then_went (parts_step c.args.has) n (opted domain_step c.args.has.domain no_domain _ _ _ _ _ (λ s l k. k) c.in_ok-count.ensures.present c.in_ok-count.ensures.absent) in
    let h = id_refused c.args.has c.args.reader.now (then_stopped (id_step c.args.has) d (opted blob c.args.has.authentication nowhere _ _ _ _ _ (λ s l k. k.0) c.in_err-authentication.ensures.present c.in_err-authentication.ensures.absent)) in
    let p = err_from_is_err_and c.from_residual-in_err-authentication.result c.from_residual-in_err-authentication.ensures.1 in rw (p.1, p.2) h

pub returns : goal.returns
returns c =
    let t = opted timestamp_at c.args.has.timestamp nowhere _ _ _ _ _ (λ s l k. k) c.in_ok-timestamp.ensures.present c.in_ok-timestamp.ensures.absent in
    let z = then_went (zone_step c.args.has) t (opted text c.args.has.zone nowhere _ _ _ _ _ (λ s l k. k) c.in_ok-zone.ensures.present c.in_ok-zone.ensures.absent) in
    let n = then_went (name_step c.args.has) z (opted text c.args.has.session_name nowhere _ _ _ _ _ (λ s l k. k) c.in_ok-session_name.ensures.present c.in_ok-session_name.ensures.absent) in
    let d = then_went (parts_step c.args.has) n (opted domain_step c.args.has.domain no_domain _ _ _ _ _ (λ s l k. k) c.in_ok-count.ensures.present c.in_ok-count.ensures.absent) in
    let i = then_went (id_step c.args.has) d (opted blob c.args.has.authentication nowhere _ _ _ _ _ (λ s l k. k.0) c.in_ok-authentication.ensures.present c.in_ok-authentication.ensures.absent) in
    texts_whole c.args.has c.args.reader.now t z n d i
