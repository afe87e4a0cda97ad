-- What a list is refused by, and what is found in it.
pub mod List
-- What the search by halves comes to in any list.
pub mod Search
