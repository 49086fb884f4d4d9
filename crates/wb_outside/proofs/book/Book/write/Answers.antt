use Rattle.std.proofs.Common.{◌≡◌, ◌<◌, ◌++◌, map, drop, length, IfSome, rules, refl, subst}
use Rattle.wb_outside.specs.Books.{IsLast, on_last, written_on}
use Rattle.wb_outside.proofs.BookLemmas.{book_written}
use Rattle.wb_outside.proofs.book.Book.write.Goals as goal

pub returns-clause-written : goal.returns-clause-written
returns-clause-written c =
    let b = c.self.inside in
    let cs = map (λ v. v.items) b.connections.items in
    let m = c.in-Some.mark in
    let items : c.extend_from_slice.new.self.items ≡ b.written.items ++ c.args.piece.now = search rules in
    let end : c.len.result ≡ length c.extend_from_slice.new.self.items = search rules in
    let last = subst (λ l. IfSome l (λ x. IsLast cs b.written.items x × (length b.earlier.items < b.next))) c.in-Some.is c.self.invariant.4 in
    rw (← c.self.view_is, c.in-Some.is)
    (book_written cs b.written.items c.extend_from_slice.new.self.items c.args.piece.now (drop b.next cs) b.earlier.items b.room m _ items c.self.invariant.3 last.0 refl refl refl end)
