mod NumberLaws
mod ValueLaws
mod ReadLaws
