-- The words of one side that a caller of a book needs.
pub use Rattle.order_book.specs.Queue.{Queue, HasRoomFor, most_entries, first_of, first_levels, levels_of, orders_from, orders_at, level_at, top_of, order_of, meets, within, traded, resting, with_rest, reduced, reduced_order, left_of, executed, generation_after_many, with_kept, AnswersOpposite, Cancels, is_same_order, has_same_orders, clone_of, total, volume}
